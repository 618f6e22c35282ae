use Rattle.std.proofs.Common.{◌≡◌, ◌+◌, ◌-◌, ◌<◌, ◌≤◌, length, refl, ap, ◌∙◌, arith}
use Rattle.std.proofs.lemmas.Bool.Decides.{nat_tests}
use Rattle.route.specs.Ends.{end_number}
use Rattle.route.specs.Stored.{message_of}
use Rattle.route.specs.Ways.{without}
use Rattle.route.proofs.Calls.{two_ends}
use Rattle.ring.specs.Rounds.{place, turns_of}
use Rattle.ring.specs.Turns.{message_at, turn, turns, queue}
use Rattle.ring.proofs.Writes.{counted, at_read, turns_other, written}
use Rattle.ring.proofs.Ahead.{shifted, shift_more, turns_lose}
use Rattle.ring.proofs.ring.Ring.move_ahead.Goals as goal

pub loop-turn-init : goal.loop-turn-init
loop-turn-init c =
    let r = c.args.self.now in
    let e = end_number c.args.end in
    let t = turns_of r.ends e in
    record {
      capacity = refl;
      ends = refl;
      here = λ j h. ap (turn r.slots.items e r.capacity t.oldest) (let s : j ≡ shifted c.args.position c.args.position j = grind (arith, nat_tests) in s);
      there = λ d h z. refl;
    }

pub loop-turn-preserved : goal.loop-turn-preserved
loop-turn-preserved c =
    let r = c.args.self.now in
    let s = c.loop-turn.self in
    let inv = c.loop-turn.invariant in
    let e = end_number c.args.end in
    let n = r.capacity in
    let t = turns_of r.ends e in
    let l = s.slots.items in
    let x = c.index-slot.result.now in
    let k = c.loop-turn.turn in
    let two = two_ends c.args.end in
    let within = r.within e two in
    let space : n + n ≤ length l = omega (arith, s.halves, s.slots.ok.0, inv.capacity) in
    let more : k + 1 < t.count = omega (arith, c.loop-turn-test.true, ap (λ u. u.count) c.turns-oldest.ensures) in
    let h = (turns_of s.ends e).oldest in
    let to : c.place-to.result ≡ place e s.capacity h k = c.place-to.ensures.value in
    let same : (j : _) → place e s.capacity h j ≡ place e n t.oldest j =
    λ j. ap (λ v. place e v h j) inv.capacity ∙ ap (λ v. place e n (turns_of v e).oldest j) inv.ends in
    let from : c.place-from.result ≡ place e n t.oldest (k + 1) = c.place-from.ensures.value ∙ same (k + 1) in
    let read : message_of x ≡ turn l e n t.oldest (k + 1) =
    ap message_of c.index-slot.ensures ∙ at_read l c.place-from.result x (omega (arith, c.place-from.ensures.below, s.slots.ok.0)) ∙ ap (message_at l) from in
    record {
      capacity = inv.capacity;
      ends = inv.ends;
      here = rw (to ∙ same k) (shift_more r.slots.items l x e n t.oldest c.args.position k t.count two (r.inside e two) within space c.loop-turn.auto.turn more read inv.here);
      there = λ d i z. rw to (turns_other l x d e s.capacity (turns_of s.ends d).oldest h (turns_of s.ends d).count k i two z (s.inside d i) (s.inside e two) (s.within d i) (omega (arith, inv.capacity))) ∙ inv.there d i z;
    }

pub returns : goal.returns
returns c =
    let r = c.args.self.now in
    let s = c.loop-turn.self in
    let inv = c.loop-turn.invariant in
    let e = end_number c.args.end in
    let n = r.capacity in
    let i = c.args.position in
    let t = turns_of r.ends e in
    let u = c.turns-oldest.result in
    let m = u.count - 1 in
    let is : u ≡ t = c.turns-oldest.ensures in
    let some : i < t.count = omega (arith, c.requires, counted r c.args.end) in
    let end : c.loop-turn.turn ≡ m = omega (arith, c.loop-turn-test.false, c.loop-turn.auto.turn-end, some, ap (λ v. v.count) is) in
    let lost : turns s.slots.items e n t.oldest m ≡ without i (queue r e) =
    turns_lose r.slots.items s.slots.items e n t.oldest i t.count m some (omega (arith, some, ap (λ v. v.count) is))
    (λ j h. inv.here j h ∙ ap (λ v. turn r.slots.items e n t.oldest (shifted i v j)) end) in
    written c.args.end (without i) r s s.slots.items c.index.result _ c.index.ensures.value (omega arith) inv.capacity
    (ap (λ v. turns s.slots.items e v u.oldest m) inv.capacity ∙ ap (λ v. turns s.slots.items e n v m) (ap (λ v. v.oldest) is) ∙ lost)
    inv.there
