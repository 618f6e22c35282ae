use Rattle.std.proofs.Common.{sym, ap, ◌∙◌}
use Rattle.route.specs.Ends.{end_number}
use Rattle.pile.specs.Numbers.{with_moved_up}
use Rattle.pile.proofs.Loops.{over_more}
use Rattle.pile.proofs.upkeep.move_up.Goals as goal

pub loop-record-preserved : goal.loop-record-preserved
loop-record-preserved c =
    let f = with_moved_up (end_number c.args.end) c.args.gone in
    over_more f c.args.records.now c.loop-record.records c.loop-record.record-index c.record-item.result c.move_up.new.self
    c.loop-record-test.true c.loop-record.invariant c.record-item.is (c.move_up.ensures ∙ ap f (sym c.record-item.is))
