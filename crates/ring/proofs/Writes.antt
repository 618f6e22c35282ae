-- What writing a slot, and moving on by a turn, does to the messages in turn.
use Rattle.std.specs.Prelude.{◌≡◌, ℕ, suc, ◌+◌, ◌-◌, ◌<◌, ◌≤◌, cond, ◌&&◌, ◌≢◌, List, [], ◌∷◌, ◌++◌, map, length, get_or, take, drop, set, nat_le, nat_lt, slice_index_or, slice_set}
use Rattle.std.proofs.Common.{sym, ap, ◌∙◌, subst, ⊎_elim, arith, add-one}
use Rattle.std.proofs.lemmas.Bool.Decides.{nat_tests}
use Rattle.std.proofs.lemmas.Bool.{cases_lt, cases_eq}
use Rattle.std.proofs.lemmas.List.{map-set, get_or-map, get_or-set_same, get_or-set_other, length-map}
use Rattle.std.proofs.lemmas.List.Edits.{length-remove, get_or-remove_below, get_or-remove_above}
use Rattle.std.proofs.lemmas.List.FromFn.{map-range_with_len_more, fill_by_all}
use Rattle.route.specs.declared.slot.Slot.{Slot}
use Rattle.route.specs.Ways.{Messages, ways_of, without}
use Rattle.route.specs.Stored.{message_of}
use Rattle.ring.specs.declared.ring.Ring.{Ring}
use Rattle.ring.specs.declared.turns.Turns.{Turns}
use Rattle.route.proofs.Calls.{queue_of, changed_by}
use Rattle.route.specs.declared.end.End.{End}
use Rattle.route.specs.Ends.{end_number}
use Rattle.route.specs.Queues.{queue as waiting, with_queue}
use Rattle.ring.specs.Turns.{message_at, turn, turns, queue, ring_ways}
use Rattle.ring.specs.Rounds.{wrap, place, turns_of}
use Rattle.ring.specs.Sound.{length-turns, at_turns, place_below}
use Rattle.ring.proofs.Places.{place_apart, half_apart, place_next}

-- how many messages wait toward an end
pub counted : (r : Ring) (end : End) → length (waiting end (ring_ways r)) ≡ (turns_of r.ends (end_number end)).count
counted r end =
    let t = turns_of r.ends (end_number end) in
    ap length (queue_of end (queue r) r.capacity) ∙ length-turns r.slots.items (end_number end) r.capacity t.oldest t.count

-- a list that has the message of each turn
pub is_turns : (xs : Messages) (l : List Slot) (e n h c : ℕ) → length xs ≡ c → ((k : ℕ) → k < c → slice_index_or xs k [] ≡ turn l e n h k) → xs ≡ turns l e n h c
is_turns xs l e n h c p f = fill_by_all (turn l e n h) xs c [] p f

pub at_same : (l : List Slot) (p : ℕ) (x : Slot) → p < length l → message_at (slice_set l p x) p ≡ message_of x
at_same l p x h =
    let k : p < length (map message_of l) = omega (arith, length-map l message_of) in
    ap (λ v. get_or v p []) (map-set message_of l p x) ∙ get_or-set_same (map message_of l) p (message_of x) [] k

pub at_other : (l : List Slot) (p q : ℕ) (x : Slot) → q ≢ p → message_at (slice_set l p x) q ≡ message_at l q
at_other l p q x z = ap (λ v. get_or v q []) (map-set message_of l p x) ∙ get_or-set_other (map message_of l) p q (message_of x) [] z

pub at_read : (l : List Slot) (p : ℕ) (d : Slot) → p < length l → message_of (slice_index_or l p d) ≡ message_at l p
at_read l p d h = sym (get_or-map message_of l p d [] h)

-- turns whose slots are not written
turns_kept : (l : List Slot) (p : ℕ) (x : Slot) (e n h c : ℕ) → ((k : ℕ) → k < c → place e n h k ≢ p) → turns (slice_set l p x) e n h c ≡ turns l e n h c
turns_kept l p x e n h c f =
    is_turns (turns (slice_set l p x) e n h c) l e n h c (length-turns (slice_set l p x) e n h c)
    (λ k i. at_turns (slice_set l p x) e n h c k i ∙ at_other l p (place e n h k) x (f k i))

pub turns_other : (l : List Slot) (x : Slot) (d e n g h c k : ℕ) → d < 2 → e < 2 → d ≢ e → g < n → h < n → c ≤ n → k < n →
    turns (slice_set l (place e n h k) x) d n g c ≡ turns l d n g c
turns_other l x d e n g h c k p q r a b i j = turns_kept l (place e n h k) x d n g c (λ m z. half_apart d e n g h m k p q r a b (omega arith) j)

pub turns_put : (l : List Slot) (x : Slot) (e n h c : ℕ) → e < 2 → h < n → c < n → n + n ≤ length l →
    turns (slice_set l (place e n h c) x) e n h (c + 1) ≡ turns l e n h c ++ (message_of x ∷ [])
turns_put l x e n h c p a b i =
    let l' : List Slot = set l (place e n h c) x in
    map-range_with_len_more (turn l' e n h) 0 c c (omega arith)
    ∙ ap (λ v. v ++ (turn l' e n h c ∷ [])) (turns_kept l (place e n h c) x e n h c (λ k z. place_apart e n h k c a (omega arith) b (λ y. omega arith)))
    ∙ ap (λ v. turns l e n h c ++ (v ∷ [])) (at_same l (place e n h c) x (omega (arith, place_below e n h c p a b)))

-- the turn that stood where the turn j stands once those from k to i - 1 have moved one turn behind
abbrev pub moved_behind : ℕ → ℕ → ℕ → ℕ
moved_behind k i j = cond (nat_lt k j && nat_le j i) (j - 1) j

-- one turn more moves behind
pub moved_more : (q : Messages) (l : List Slot) (x : Slot) (e n h i k c : ℕ) → e < 2 → h < n → c ≤ n → n + n ≤ length l → k < i → i < c →
    message_of x ≡ turn l e n h k →
    ((j : ℕ) → j < c → turn l e n h j ≡ slice_index_or q (moved_behind (k + 1) i j) []) →
    (j : ℕ) → j < c → turn (slice_set l (place e n h (k + 1)) x) e n h j ≡ slice_index_or q (moved_behind k i j) []
moved_more q l x e n h i k c p a b s d z read f j g =
    let l' : List Slot = set l (place e n h (k + 1)) x in
    let P : ℕ → Type 0 = λ v. turn l' e n h v ≡ get_or q (moved_behind k i v) [] in
    ⊎_elim
    (λ (y : j ≡ k + 1). subst P (sym y)
    (at_same l (place e n h (k + 1)) x (omega (arith, place_below e n h (k + 1) p a (omega arith))) ∙ read ∙ f k (omega arith)
    ∙ ap (λ v. get_or q v []) (let t : moved_behind (k + 1) i k ≡ moved_behind k i (k + 1) = grind (arith, nat_tests) in t)))
    (λ y. at_other l (place e n h (k + 1)) (place e n h j) x (place_apart e n h j (k + 1) a (omega arith) (omega arith) y) ∙ f j g
    ∙ ap (λ v. get_or q v []) (let t : moved_behind (k + 1) i j ≡ moved_behind k i j = grind (arith, nat_tests) in t))
    (cases_eq j (k + 1))

-- all ahead of the turn i have moved one turn behind, and the turns begin one place on
pub turns_without : (q : Messages) (l : List Slot) (e n h i c m : ℕ) → h < n → i < c → c ≤ n → m + 1 ≡ c → length q ≡ c →
    ((j : ℕ) → j < c → turn l e n h j ≡ slice_index_or q (moved_behind 0 i j) []) → turns l e n (wrap n (h + 1)) m ≡ without i q
turns_without q l e n h i c m a b d z lq f =
    let bq : i < length q = omega arith in
    let moved : (k : ℕ) → k < m → turn l e n (wrap n (h + 1)) k ≡ get_or q (moved_behind 0 i (1 + k)) [] =
    λ k y. ap (message_at l) (place_next e n h k a (omega arith)) ∙ f (1 + k) (omega arith) in
    let r : Messages = take i q ++ drop (suc i) q in
    let back : r ≡ turns l e n (wrap n (h + 1)) m = is_turns r l e n (wrap n (h + 1)) m (omega (arith, length-remove q i bq))
    (λ k y. ⊎_elim
    (λ (x : k < i). get_or-remove_below q i [] k x bq
    ∙ ap (λ v. get_or q v []) (let t : k ≡ moved_behind 0 i (1 + k) = grind (arith, nat_tests) in t) ∙ sym (moved k y))
    (λ (x : i ≤ k). get_or-remove_above q i [] k x bq
    ∙ ap (λ v. get_or q v []) (let t : k + 1 ≡ moved_behind 0 i (1 + k) = grind (arith, nat_tests) in t) ∙ sym (moved k y))
    (cases_lt k i)) in
    sym back ∙ ap (λ v. take i q ++ drop v q) (sym (add-one i))

-- a ring s whose slots, and the turns of one end, are written: the other end's messages are those of the ring r
pub written : (end : End) (F : Messages → Messages) (r s : Ring) (l : List Slot) (i : ℕ) (u : Turns) → i ≡ end_number end → i < length s.ends → s.capacity ≡ r.capacity →
    turns l (end_number end) s.capacity u.oldest u.count ≡ F (queue r (end_number end)) →
    ((d : ℕ) → d < 2 → d ≢ end_number end → turns l d s.capacity (turns_of s.ends d).oldest (turns_of s.ends d).count ≡ queue r d) →
    ways_of (λ d. turns l d s.capacity (turns_of (slice_set s.ends i u) d).oldest (turns_of (slice_set s.ends i u) d).count) s.capacity
    ≡ with_queue end F (ring_ways r)
written end F r s l i u is h cap same others =
    let none : Turns = record { oldest = 0; count = 0 } in
    let g : Turns → ℕ → Messages = λ t d. turns l d s.capacity t.oldest t.count in
    ap (ways_of (λ d. g (turns_of (set s.ends i u) d) d)) cap
    ∙ changed_by end F (queue r) (λ d. g (turns_of (set s.ends i u) d) d) r.capacity
    (ap (λ t. g t (end_number end)) (ap (turns_of (set s.ends i u)) (sym is) ∙ get_or-set_same s.ends i u none h) ∙ same)
    (λ d b z. ap (λ t. g t d) (get_or-set_other s.ends i d u none (λ y. z (y ∙ is))) ∙ others d b z)
