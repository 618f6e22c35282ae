use Rattle.std.proofs.Common.{◌≡◌, ◌/◌, None, Some, ap, ◌∙◌, arith}
use Rattle.pile.proofs.Changes.{unoccupied, some_free, added_within, added_numbered}
use Rattle.pile.proofs.Means.{counted, added_means, free_found}
use Rattle.pile.proofs.store.PileQueues.push.Goals as goal

pub unreachable-requires : goal.unreachable-requires
unreachable-requires c =
    let p = c.args.self.now in
    let end = c.args.end in
    let l = p.records.items in
    let half = ap (λ v. v / 2) p.records.ok.0 in
    let none : unoccupied l ≡ 0 = free_found l _ None c.deref.ensures.value c.in_default.ensures in
    let some = some_free end l (omega (arith, c.queued-number.ensures, c.len.ensures, c.if-number-len.false, counted p end)) (λ d. omega (arith, p.within d)) in
    omega arith

pub invariant_of-self : goal.invariant_of-self
invariant_of-self c =
    let p = c.args.self.now in
    let end = c.args.end in
    let l = p.records.items in
    let i = c.in-Some.place in
    let free = free_found l _ (Some i) c.deref.ensures.value c.in-Some.ensures in
    record {
      some = p.some;
      within = added_within end _ _ l i (p.records.len / 2) free (omega (arith, c.queued-number.ensures, c.len.ensures, c.if-number-len.false, counted p end)) p.within;
      numbered = added_numbered end c.queued-number.result _ l i (c.queued-number.ensures ∙ counted p end) p.numbered free;
    }

pub returns-clause-added : goal.returns-clause-added
returns-clause-added c =
    let p = c.args.self.now in
    let end = c.args.end in
    let l = p.records.items in
    let i = c.in-Some.place in
    let free = free_found l _ (Some i) c.deref.ensures.value c.in-Some.ensures in
    added_means end c.queued-number.result c.args.slot l i (p.records.len / 2) (c.queued-number.ensures ∙ counted p end) p.numbered free
