-- `parse` reads what the text says.
use Rattle.std.proofs.Common.{is_ok, Ok, vec_items, sym, ap, ◌∙◌, arith}
use Rattle.std.proofs.ResultArms.{chosen}
use Rattle.std.proofs.lemmas.Result.{err_from_is_err_and}
use Rattle.hex_text.proofs.Runs.{goes_on, pushes, keeps, stops}
use Rattle.hex_text.proofs.text.parse.Goals as goal
use Rattle.hex_text.proofs.text.parse.Goals.{in-Octet+in_ok-push, in_default}

pub returns-in_err-stage-clause-reads : goal.returns-in_err-stage-clause-reads
returns-in_err-stage-clause-reads c =
    let p = err_from_is_err_and c.from_residual.result c.from_residual.ensures.1 in
    rw (p.1, p.2) (stops c.loop-place.invariant c.as_bytes-character-items.ensures.value (omega arith) _ c.in_err-stage.ensures)

pub returns-in_err-push-clause-reads : goal.returns-in_err-push-clause-reads
returns-in_err-push-clause-reads c =
    let p = err_from_is_err_and c.from_residual-in_err-push.result c.from_residual-in_err-push.ensures.1 in
    rw (p.1, p.2) (keeps c.loop-place.invariant c.as_bytes-character-items.ensures.value (omega arith) _ (ap Ok (sym c.in-Octet.is) ∙ c.in_ok-stage.ensures))

pub loop-place-preserved : goal.loop-place-preserved
loop-place-preserved c =
    elim c.match-stage.branch [
      | in-Octet+in_ok-push w ↦
          let pushed = chosen _ _ _ _ w.push.ensures.items (ap is_ok w.in_ok-push.was) in
          rw (w.stage-is, ap vec_items w.octets-is ∙ pushed)
          (pushes c.loop-place.invariant c.as_bytes-character-items.ensures.value (omega arith) _ (ap Ok (sym w.in-Octet.is) ∙ c.in_ok-stage.ensures))
      | in_default w ↦
          rw (w.stage-is, w.octets-is)
          (goes_on c.loop-place.invariant c.as_bytes-character-items.ensures.value (omega arith) _ w.in_default.not-Octet c.in_ok-stage.ensures)
    ]
