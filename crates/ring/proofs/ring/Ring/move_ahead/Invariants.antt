use Rattle.std.proofs.Common.{◌≡◌, ℕ, ◌<◌, ◌≢◌, vec_items}
use Rattle.route.specs.Ends.{end_number}
use Rattle.ring.specs.Rounds.{turns_of}
use Rattle.ring.specs.Turns.{turn, queue}
use Rattle.ring.proofs.Ahead.{shifted}
use Rattle.ring.proofs.ring.Ring.move_ahead.Given as goal

-- only slots are written: the messages behind the gap have moved one turn ahead, as far as the turn, and the other end's are as they were
abbrev pub invariant-loop-turn : goal.invariant-loop-turn
invariant-loop-turn l =
    let r = l.initial.self in
    let e = end_number l.end in
    let t = turns_of r.ends e in
    record {
      capacity : l.self.capacity ≡ r.capacity;
      ends : l.self.ends ≡ r.ends;
      here : (j : ℕ) → j < t.count → turn (vec_items l.self.slots) e r.capacity t.oldest j ≡ turn (vec_items r.slots) e r.capacity t.oldest (shifted l.position l.turn j);
      there : (d : ℕ) → d < 2 → d ≢ e → queue l.self d ≡ queue r d;
    }
