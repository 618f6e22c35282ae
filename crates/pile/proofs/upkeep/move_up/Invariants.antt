use Rattle.std.proofs.Common.{◌≡◌, ◌++◌, map, take, drop}
use Rattle.route.specs.Ends.{end_number}
use Rattle.pile.specs.Numbers.{with_moved_up}
use Rattle.pile.proofs.upkeep.move_up.Given as goal

abbrev pub invariant-loop-record : goal.invariant-loop-record
invariant-loop-record l = l.records ≡ map (with_moved_up (end_number l.end) l.gone) (take l.record-index l.initial.records) ++ drop l.record-index l.initial.records
