use Rattle.std.proofs.Common.{sym, ap}
use Rattle.pile.specs.Numbers.{freed}
use Rattle.pile.proofs.Loops.{over_more}
use Rattle.pile.proofs.upkeep.clear.Goals as goal

pub loop-record-preserved : goal.loop-record-preserved
loop-record-preserved c =
    over_more freed c.args.records.now c.loop-record.records c.loop-record.record-index c.record-item.result _
    c.loop-record-test.true c.loop-record.invariant c.record-item.is (ap freed (sym c.record-item.is))
