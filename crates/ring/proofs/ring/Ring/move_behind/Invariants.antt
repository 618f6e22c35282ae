use Rattle.std.proofs.Common.{◌≡◌, ℕ, ◌<◌, ◌≢◌, [], length, vec_items, slice_index_or}
use Rattle.route.specs.Ends.{end_number}
use Rattle.ring.specs.Rounds.{turns_of}
use Rattle.ring.specs.Turns.{turn, queue}
use Rattle.ring.proofs.Writes.{moved_behind}
use Rattle.ring.proofs.ring.Ring.move_behind.Given as goal

-- the messages from the turn on have moved one turn behind, as far as the gap, and the other end's are as they were
abbrev pub invariant-loop-turn : goal.invariant-loop-turn
invariant-loop-turn l =
    let e = end_number l.end in
    let q = queue l.initial.self e in
    let t = turns_of l.self.ends e in
    record {
      capacity : l.self.capacity ≡ l.initial.self.capacity;
      count : t.count ≡ length q;
      here : (j : ℕ) → j < t.count → turn (vec_items l.self.slots) e l.self.capacity t.oldest j ≡ slice_index_or q (moved_behind l.turn l.position j) [];
      there : (d : ℕ) → d < 2 → d ≢ e → queue l.self d ≡ queue l.initial.self d;
    }
