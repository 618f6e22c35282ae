use Rattle.std.proofs.Common.{◌≡◌, ◌≤◌, take}
use Rattle.route.specs.Ends.{end_number}
use Rattle.pile.specs.Numbers.{waiting}
use Rattle.pile.proofs.upkeep.count_toward.Given as goal

abbrev pub invariant-loop-record : goal.invariant-loop-record
invariant-loop-record l = (l.count ≤ l.record-index) × (l.count ≡ waiting (end_number l.end) (take l.record-index l.records))
