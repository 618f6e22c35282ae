-- What a pile means is sound.
use Rattle.std.specs.Prelude.{◌≡◌, ℕ, ◌+◌, ◌/◌, ◌<◌, ◌≤◌, Bool, true, false, cond, Option, None, Some, List, [], ◌∷◌, length, count_by, find, MatchOption, slice_index_or, refl}
use Rattle.std.proofs.Common.{sym, subst, arith}
use Rattle.std.proofs.lemmas.Bool.Decides.{nat_tests}
use Rattle.std.proofs.lemmas.List.Sums.{sum_by-cons}
use Rattle.std.specs.Option.{option_map_or}
use Rattle.std.proofs.lemmas.List.FromFn.{length-map-range_with_len, get_or-map-range_with_len}
use Rattle.route.specs.Stored.{message_of}
use Rattle.route.proofs.Slots.{sized}
use Rattle.route.specs.Ways.{Sound}
use Rattle.route.proofs.Calls.{sound_of}
use Rattle.pile.specs.declared.store.Pile.{Pile}
use Rattle.pile.specs.Held.{pile_ways}
use Rattle.pile.specs.declared.records.Record.{Record}
use Rattle.pile.specs.Numbers.{waits, waiting, holders, Numbered, message_numbered, in_order}

-- a queue has as many messages as wait, each at its number
pub length-order : (e : ℕ) (l : List Record) → length (in_order e l) ≡ waiting e l
length-order e l = length-map-range_with_len (λ k. message_numbered e k l) 0 (waiting e l)

pub at_order : (e k : ℕ) (l : List Record) → k < waiting e l → slice_index_or (in_order e l) k [] ≡ message_numbered e k l
at_order e k l h = get_or-map-range_with_len (λ j. message_numbered e j l) 0 (waiting e l) k k [] h (omega arith)

-- what is looked for among the records is found where one has it
pub found : {X : Type 0} (p : X → Bool) (xs : List X) → MatchOption (find p xs) (count_by p xs ≡ 0) (λ _. 0 < count_by p xs)
found p [] = refl
found {X} p (x ∷ xs) = rw (sum_by-cons (λ y. cond (p y) 1 0) x xs) (go (p x) (find p xs) (count_by p xs) (found p xs))
  where
    go : (b : Bool) (o : Option X) (n : ℕ) → MatchOption o (n ≡ 0) (λ _. 0 < n) → MatchOption (cond b (Some x) o) (cond b 1 0 + n ≡ 0) (λ _. 0 < cond b 1 0 + n)
    go true o n h = omega arith
    go false None n h = omega arith
    go false (Some y) n h = omega arith

-- each message has 1 to 268 octets
sized-numbered : (e k : ℕ) (l : List Record) → 0 < holders e k l → (0 < length (message_numbered e k l)) × (length (message_numbered e k l) ≤ 268)
sized-numbered e k l h = go (find (λ (r : Record). waits e k r.tag) l) (found (λ (r : Record). waits e k r.tag) l)
  where
    go : (o : Option Record) → MatchOption o (holders e k l ≡ 0) (λ _. 0 < holders e k l) →
        (0 < length (option_map_or (λ (r : Record). message_of r.slot) o [])) × (length (option_map_or (λ (r : Record). message_of r.slot) o []) ≤ 268)
    go None z = absurd (omega arith)
    go (Some r) _ = sized r.slot

pub sized-order : (e k : ℕ) (l : List Record) → Numbered l → k < length (in_order e l) → (0 < length (slice_index_or (in_order e l) k [])) × (length (slice_index_or (in_order e l) k []) ≤ 268)
sized-order e k l u h =
    let i : k < waiting e l = omega (arith, length-order e l) in
    let some : 0 < holders e k l = let n = u e k in grind (arith, nat_tests) in
    let P : List ℕ → Type 0 = λ m. (0 < length m) × (length m ≤ 268) in
    subst P (sym (at_order e k l i)) (sized-numbered e k l some)

-- what a pile means is sound
pub pile_sound : (p : Pile) → Sound (pile_ways p)
pile_sound p =
    let l = p.records.items in
    sound_of (λ e. in_order e l) (p.records.len / 2) (omega (arith, p.some)) (λ e _. omega (arith, length-order e l, p.within e)) (λ e k _ h. sized-order e k l p.numbered h)
