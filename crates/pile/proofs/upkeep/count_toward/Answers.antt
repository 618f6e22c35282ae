use Rattle.std.proofs.Common.{Bool, sym, ap, ◌∙◌, arith}
use Rattle.std.proofs.lemmas.List.Sums.{count_by_more_yes, count_by_more_no}
use Rattle.route.specs.Ends.{end_number}
use Rattle.pile.specs.declared.records.Record.{Record}
use Rattle.pile.specs.Numbers.{toward_end}
use Rattle.pile.proofs.upkeep.count_toward.Goals as goal
use Rattle.pile.proofs.upkeep.count_toward.Goals.{then-is_toward, else-is_toward}

pub loop-record-preserved : goal.loop-record-preserved
loop-record-preserved c =
    let p : Record → Bool = λ r. toward_end (end_number c.args.end) r.tag in
    let l = c.args.records.now in
    let i = c.loop-record.record-index in
    let x = c.record-item.result in
    let h = c.loop-record-test.true in
    let is = ap p (sym c.record-item.is) in
    elim c.if-is_toward.branch [
      | then-is_toward w ↦ omega (arith, w.count-is, count_by_more_yes p l i x h (is ∙ sym w.if-is_toward.ensures))
      | else-is_toward w ↦ omega (arith, w.count-is, count_by_more_no p l i x h (is ∙ sym w.if-is_toward.ensures))
    ]
