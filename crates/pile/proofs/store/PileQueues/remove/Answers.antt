use Rattle.std.proofs.Common.{None, Some, refl, arith}
use Rattle.std.proofs.lemmas.Bool.{true≢false}
use Rattle.pile.proofs.Means.{slot_found}
use Rattle.pile.proofs.store.PileQueues.remove.Goals as goal

pub returns-in_err-slot-clause-none : goal.returns-in_err-slot-clause-none
returns-in_err-slot-clause-none c =
    let past = slot_found c.args.self.now c.args.end c.args.position _ None c.deref.ensures.value c.in_err-slot.ensures in
    rw c.from_residual.ensures ((λ _. past), (λ _. refl))

pub close_gap-requires : goal.close_gap-requires
close_gap-requires c = (slot_found c.args.self.now c.args.end c.args.position _ (Some c.in_ok-slot.slot) c.deref.ensures.value c.in_ok-slot.ensures).0

pub returns-clause-none : goal.returns-clause-none
returns-clause-none c =
    let there = (slot_found c.args.self.now c.args.end c.args.position _ (Some c.in_ok-slot.slot) c.deref.ensures.value c.in_ok-slot.ensures).0 in
    ((λ e. absurd (true≢false e)), (λ h. absurd (omega arith)))

pub returns-clause-message : goal.returns-clause-message
returns-clause-message c = (slot_found c.args.self.now c.args.end c.args.position _ (Some c.in_ok-slot.slot) c.deref.ensures.value c.in_ok-slot.ensures).1
