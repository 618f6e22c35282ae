use Rattle.std.proofs.Common.{◌≡◌, ◌+◌, ◌-◌, ◌<◌, ◌≤◌, [], length, get_or, sym, refl, ap, ◌∙◌, arith}
use Rattle.std.proofs.lemmas.Bool.Decides.{nat_tests}
use Rattle.route.specs.Ends.{end_number}
use Rattle.route.specs.Stored.{message_of}
use Rattle.route.specs.Ways.{without}
use Rattle.route.proofs.Calls.{two_ends, queue_of}
use Rattle.ring.specs.Rounds.{place, turns_of}
use Rattle.ring.specs.Turns.{message_at, queue}
use Rattle.ring.specs.Sound.{length-turns, at_turns}
use Rattle.ring.proofs.Writes.{at_read, turns_other, turns_without, moved_behind, moved_more, written}
use Rattle.ring.proofs.ring.Ring.move_behind.Goals as goal

pub loop-turn-init : goal.loop-turn-init
loop-turn-init c =
    let r = c.args.self.now in
    let e = end_number c.args.end in
    let t = turns_of r.ends e in
    record {
      capacity = refl;
      count = sym (length-turns r.slots.items e r.capacity t.oldest t.count);
      here = λ j h. sym (at_turns r.slots.items e r.capacity t.oldest t.count j h)
          ∙ ap (λ v. get_or (queue r e) v []) (let s : j ≡ moved_behind c.args.position c.args.position j = grind (arith, nat_tests) in s);
      there = λ d h z. refl;
    }

pub loop-turn-preserved : goal.loop-turn-preserved
loop-turn-preserved c =
    let r = c.args.self.now in
    let s = c.loop-turn.self in
    let inv = c.loop-turn.invariant in
    let e = end_number c.args.end in
    let n = s.capacity in
    let l = s.slots.items in
    let t = turns_of s.ends e in
    let x = c.index-slot.result.now in
    let k = c.loop-turn.turn - 1 in
    let two = two_ends c.args.end in
    let inside = s.inside e two in
    let within = s.within e two in
    let i : c.args.position < t.count = omega (arith, inv.count, c.requires, ap length (queue_of c.args.end (queue r) r.capacity)) in
    let gap : k < c.args.position = omega (arith, c.loop-turn-test.true, c.loop-turn.auto.turn) in
    let space : n + n ≤ length l = omega (arith, s.halves, s.slots.ok.0) in
    let to : c.place-to.result ≡ place e n t.oldest (k + 1) = c.place-to.ensures.value in
    let from : c.place-from.result ≡ place e n t.oldest k = c.place-from.ensures.value in
    let read : message_of x ≡ message_at l (place e n t.oldest k) =
    ap message_of c.index-slot.ensures ∙ at_read l c.place-from.result x (omega (arith, c.place-from.ensures.below, s.slots.ok.0)) ∙ ap (message_at l) from in
    let back : k + 1 ≡ c.loop-turn.turn = omega (arith, c.loop-turn-test.true) in
    record {
      capacity = inv.capacity;
      count = inv.count;
      here = rw to (moved_more (queue r e) l x e n t.oldest c.args.position k t.count two inside within space gap i read (rw back inv.here));
      there = λ d h z. rw to (turns_other l x d e n (turns_of s.ends d).oldest t.oldest (turns_of s.ends d).count (k + 1) h two z (s.inside d h) inside (s.within d h) (omega arith)) ∙ inv.there d h z;
    }

pub returns : goal.returns
returns c =
    let r = c.args.self.now in
    let s = c.loop-turn.self in
    let inv = c.loop-turn.invariant in
    let e = end_number c.args.end in
    let n = s.capacity in
    let t = turns_of s.ends e in
    let two = two_ends c.args.end in
    let q = queue r e in
    let i : c.args.position < t.count = omega (arith, inv.count, c.requires, ap length (queue_of c.args.end (queue r) r.capacity)) in
    let last : c.loop-turn.turn ≡ 0 = omega (arith, c.loop-turn-test.false) in
    written c.args.end (without c.args.position) r s s.slots.items c.index.result _ c.index.ensures.value (omega arith) inv.capacity
    (rw (c.wrapped-oldest.ensures.value, c.turns-oldest.ensures) (turns_without q s.slots.items e n t.oldest c.args.position t.count (t.count - 1) (s.inside e two) i (s.within e two) (omega arith) (sym inv.count)
    (λ j h. inv.here j h ∙ ap (λ v. get_or q (moved_behind v c.args.position j) []) last)))
    inv.there
