-- What a ring means is sound.
use Rattle.std.specs.Prelude.{◌≡◌, ℕ, zero, suc, ◌+◌, ◌<◌, ◌≤◌, List, [], ◌∷◌, length, slice_index_or}
use Rattle.std.proofs.Common.{sym, subst, arith}
use Rattle.std.proofs.lemmas.List.FromFn.{length-map-range_with_len, get_or-map-range_with_len}
use Rattle.route.specs.declared.slot.Slot.{Slot}
use Rattle.route.specs.Ways.{Sound}
use Rattle.route.proofs.Slots.{sized}
use Rattle.ring.specs.declared.ring.Ring.{Ring}
use Rattle.route.proofs.Calls.{sound_of}
use Rattle.ring.specs.Turns.{message_at, turn, turns, queue, ring_ways}
use Rattle.ring.specs.Rounds.{place, turns_of}
use Rattle.std.proofs.lemmas.Bool.Decides.{nat_tests}

pub length-turns : (l : List Slot) (e n h c : ℕ) → length (turns l e n h c) ≡ c
length-turns l e n h c = length-map-range_with_len (turn l e n h) 0 c

pub at_turns : (l : List Slot) (e n h c k : ℕ) → k < c → slice_index_or (turns l e n h c) k [] ≡ turn l e n h k
at_turns l e n h c k i = get_or-map-range_with_len (turn l e n h) 0 c k k [] i (omega arith)

pub place_below : (e n h k : ℕ) → e < 2 → h < n → k < n → place e n h k < n + n
place_below e n h k i a b = grind (arith, nat_tests)

-- each message has 1 to 268 octets
sized_at : (l : List Slot) (p : ℕ) → p < length l → (0 < length (message_at l p)) × (length (message_at l p) ≤ 268)
sized_at [] p h = absurd (omega arith)
sized_at (s ∷ l) zero h = sized s
sized_at (s ∷ l) (suc p) h = sized_at l p (omega arith)

pub sized-turns : (l : List Slot) (e n h c k : ℕ) → e < 2 → h < n → c ≤ n → n + n ≤ length l → k < length (turns l e n h c) →
    (0 < length (slice_index_or (turns l e n h c) k [])) × (length (slice_index_or (turns l e n h c) k []) ≤ 268)
sized-turns l e n h c k p a b i j =
    let z : k < c = omega (arith, length-turns l e n h c) in
    subst (λ m. (0 < length m) × (length m ≤ 268)) (sym (at_turns l e n h c k z))
    (sized_at l (place e n h k) (omega (arith, place_below e n h k p a (omega arith))))

-- what a ring means is sound
pub ring_sound : (r : Ring) → Sound (ring_ways r)
ring_sound r =
    let turned = length-turns r.slots.items in
    sound_of (queue r) r.capacity r.some (λ e h. omega (arith, turned e r.capacity (turns_of r.ends e).oldest (turns_of r.ends e).count, r.within e h))
    (λ e k h i. sized-turns r.slots.items e r.capacity (turns_of r.ends e).oldest (turns_of r.ends e).count k h (r.inside e h) (r.within e h) (omega (arith, r.halves, r.slots.ok.0)) i)
