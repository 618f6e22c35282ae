-- What a pile means as it is new, and as a message comes or goes.
use Rattle.std.proofs.Common.{◌≡◌, ℕ, ◌/◌, ◌<◌, ◌≤◌, Option, None, Some, option_map, MatchOption, find, position, Bool, true, refl, inl, inr, List, [], ◌∷◌, ◌++◌, map, length, get_or, set, sym, ap, ◌∙◌, arith}
use Rattle.std.specs.List.{position_or_len}
use Rattle.std.specs.Option.{option_map_or}
use Rattle.std.proofs.lemmas.Bool.{cases_lt, lt-ltb, le-ltb, false≢true}
use Rattle.std.proofs.lemmas.List.Sums.{passes_at_first}
use Rattle.std.proofs.lemmas.List.Folds.{find_at}
use Rattle.std.proofs.lemmas.Option.{slice_get_past, MatchOption-at_none}
use Rattle.route.specs.declared.end.End.{End}
use Rattle.route.specs.declared.slot.Slot.{Slot}
use Rattle.route.specs.Ends.{end_number}
use Rattle.route.specs.Stored.{message_of}
use Rattle.route.specs.Ways.{Ways, Messages, ways_of, without}
use Rattle.route.specs.Queues.{queue, with_queue}
use Rattle.pile.specs.declared.store.Pile.{Pile}
use Rattle.pile.specs.Held.{pile_ways}
use Rattle.route.proofs.Calls.{queue_of, changed_by}
use Rattle.pile.specs.declared.records.Record.{Record}
use Rattle.pile.specs.declared.records.Waiting.{Waiting}
use Rattle.pile.specs.Numbers.{is_free, waits, waiting, holders, Numbered, in_order, with_moved_up}
use Rattle.pile.specs.Sound.{length-order, at_order, found}
use Rattle.pile.proofs.Changes.{FreeAt, unoccupied, record_of, some_numbered, none_numbered, removed_same, removed_other, added_same, added_other}

-- what records mean at a capacity
abbrev pub means : List Record → ℕ → Ways
means l n = ways_of (λ e. in_order e l) n

-- how many messages wait toward an end
pub counted : (p : Pile) (end : End) → length (queue end (pile_ways p)) ≡ waiting (end_number end) p.records.items
counted p end = ap length (queue_of end (λ e. in_order e p.records.items) (p.records.len / 2)) ∙ length-order (end_number end) p.records.items

pub fits : (p : Pile) (end : End) → length (queue end (pile_ways p)) ≤ p.records.len / 2
fits p end = omega (arith, counted p end, p.within (end_number end))

-- a message that goes, and one that comes
pub removed_means : (end : End) (k : ℕ) (l : List Record) (n : ℕ) → Numbered l → k < waiting (end_number end) l →
    means (map (with_moved_up (end_number end) k) l) n ≡ with_queue end (without k) (means l n)
removed_means end k l n u h =
    let e : ℕ = end_number end in
    changed_by end (without k) (λ d. in_order d l) (λ d. in_order d (map (with_moved_up e k) l)) n (removed_same e k l u h) (λ d _ z. removed_other d e k l z)

pub added_means : (end : End) (k : ℕ) (s : Slot) (l : List Record) (i n : ℕ) → k ≡ waiting (end_number end) l → Numbered l → FreeAt l i →
    means (set l i (record_of end k s)) n ≡ with_queue end (λ q. q ++ (message_of s ∷ [])) (means l n)
added_means end k s l i n x u f =
    changed_by end (λ q. q ++ (message_of s ∷ [])) (λ d. in_order d l) (λ d. in_order d (set l i (record_of end k s))) n
    (added_same end k s l i x u f) (λ d _ z. added_other d end k s l i f z)

-- the message at a position, found by its queue number
pub slot_found : (p : Pile) (end : End) (k : ℕ) (l : List Record) (o : Option Slot) → l ≡ p.records.items → o ≡ option_map (λ (r : Record). r.slot) (find (λ (r : Record). waits (end_number end) k r.tag) l) →
    MatchOption o (length (queue end (pile_ways p)) ≤ k) (λ s. (k < length (queue end (pile_ways p))) × (message_of s ≡ get_or (queue end (pile_ways p)) k []))
slot_found p end k s o same is = rw (is, same) (go (find test l) refl (found test l))
  where
    e : ℕ
    e = end_number end

    l : List Record
    l = p.records.items

    test : Record → Bool
    test r = waits e k r.tag

    q : Messages
    q = queue end (pile_ways p)

    go : (f : Option Record) → find test l ≡ f → MatchOption f (holders e k l ≡ 0) (λ _. 0 < holders e k l) →
        MatchOption (option_map (λ (r : Record). r.slot) f) (length q ≤ k) (λ s. (k < length q) × (message_of s ≡ get_or q k []))
    go None h none = omega (arith, counted p end, none_numbered e k l p.numbered none)
    go (Some r) h some =
        let there = some_numbered e k l p.numbered some in (
          omega (arith, counted p end),
          ap (λ (f : Option Record). option_map_or (λ (x : Record). message_of x.slot) f []) (sym h) ∙ sym (at_order e k l there) ∙ ap (λ v. get_or v k []) (sym (queue_of end (λ d. in_order d l) (p.records.len / 2))),
        )

-- a free record, found by its place
pub free_found : (l s : List Record) (o : Option ℕ) → s ≡ l → o ≡ position (λ (r : Record). is_free r.tag) s → MatchOption o (unoccupied l ≡ 0) (FreeAt l)
free_found l s o same is = rw (is, same) (elim (cases_lt (position_or_len test l) (length l)) [
  | inl h ↦ rw (lt-ltb _ _ h) (h, (λ d. free _ (passes_at_first test l d h)))
  | inr h ↦ rw (le-ltb _ _ h) (MatchOption-at_none _ _ (find_at test l ∙ slice_get_past l (position_or_len test l) h) (found test l))
])
  where
    test : Record → Bool
    test r = is_free r.tag

    free : (t : Option Waiting) → is_free t ≡ true → t ≡ None
    free None h = refl
    free (Some w) h = absurd (false≢true h)
