use Rattle.std.proofs.Common.{◌≡◌, ◌++◌, map, take, drop}
use Rattle.pile.specs.Numbers.{freed}
use Rattle.pile.proofs.upkeep.clear.Given as goal

abbrev pub invariant-loop-record : goal.invariant-loop-record
invariant-loop-record l = l.records ≡ map freed (take l.record-index l.initial.records) ++ drop l.record-index l.initial.records
