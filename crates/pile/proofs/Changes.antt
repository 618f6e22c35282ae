-- What becomes of the queues of a pile as a message comes or goes.
use Rattle.std.specs.Prelude.{◌≡◌, ℕ, zero, suc, ◌+◌, ◌/◌, ◌<◌, ◌≤◌, Bool, true, false, cond, ◌&&◌, ◌≢◌, Option, None, Some, List, [], ◌∷◌, ◌++◌, map, length, get_or, take, drop, set, count_by, find, ◌==◌, nat_lt, slice_index_or, slice_set, refl}
use Rattle.std.proofs.Common.{sym, ap, ◌∙◌, subst, ⊎_elim, arith, add-one}
use Rattle.std.specs.List.{range_with_len, remove}
use Rattle.std.proofs.lemmas.Bool.Decides.{nat_tests}
use Rattle.std.proofs.lemmas.Bool.{cases_lt, cases_eq, cond-true, cond-false}
use Rattle.std.proofs.lemmas.List.Sums.{sum_by-cons, sum_by-set}
use Rattle.std.specs.Option.{option_map_or}
use Rattle.std.proofs.lemmas.List.Folds.{find_past}
use Rattle.std.proofs.lemmas.List.Edits.{length-remove, get_or-remove_below, get_or-remove_above}
use Rattle.std.proofs.lemmas.List.FromFn.{length-map-range_with_len, get_or-map-range_with_len, map-range_with_len_more, fill_by_all}
use Rattle.route.specs.Ends.{end_number}
use Rattle.route.specs.declared.end.End.{End}
use Rattle.route.specs.declared.end.End.TheVariants.{Zero, One}
use Rattle.route.specs.declared.slot.Slot.{Slot}
use Rattle.route.specs.Stored.{message_of}
use Rattle.route.specs.Ways.{Messages, without}
use Rattle.pile.specs.declared.records.Waiting.{Waiting}
use Rattle.pile.specs.declared.records.Record.{Record}
use Rattle.pile.specs.Numbers.{is_free, toward_end, waits, waiting, holders, Numbered, message_numbered, in_order, moved_up, with_moved_up}
use Rattle.pile.specs.Sound.{length-order, at_order}
use Rattle.pile.proofs.Sums.{sum_over, sum_parts, sum_ones}

-- the record at the place i is free
abbrev pub FreeAt : List Record → ℕ → Type 0
FreeAt l i = (i < length l) × ((d : Record) → (slice_index_or l i d).tag ≡ None)

-- how many records are free
abbrev pub unoccupied : List Record → ℕ
unoccupied l = count_by (λ r. is_free r.tag) l

-- one record counted anew
count_set : (p : Record → Bool) (l : List Record) (i : ℕ) (r : Record) → i < length l → p (slice_index_or l i r) ≡ false → count_by p (slice_set l i r) ≡ count_by p l + cond (p r) 1 0
count_set p l i r h e =
    let none : ◌≡◌ {A = ℕ} (cond (p (slice_index_or l i r)) 1 0) 0 = cond-false (p (slice_index_or l i r)) 1 0 e in
    omega (arith, sum_by-set (λ x. cond (p x) 1 0) l i r r h)

-- each record is free or waits toward one of the ends
parts : (t : Option Waiting) → cond (toward_end 0 t) 1 0 + cond (toward_end 1 t) 1 0 + cond (is_free t) 1 0 ≡ 1
parts None = refl
parts (Some w) = of w.end
  where
    of : (end : End) → cond (end_number end == 0) 1 0 + cond (end_number end == 1) 1 0 + 0 ≡ 1
    of Zero = refl
    of One = refl

all_records : (l : List Record) → waiting 0 l + waiting 1 l + unoccupied l ≡ length l
all_records l =
    let f : ℕ → Record → ℕ = λ e r. cond (toward_end e r.tag) 1 0 in
    let free : Record → ℕ = λ r. cond (is_free r.tag) 1 0 in
    ap (λ n. n + unoccupied l) (sum_parts (f 0) (f 1) (λ r. f 0 r + f 1 r) (λ r. refl) l)
    ∙ sum_parts (λ r. f 0 r + f 1 r) free (λ _. 1) (λ r. parts r.tag) l ∙ sum_ones l

-- the queue number that j was before the number k went, and how a record's use shows it
abbrev before : ℕ → ℕ → ℕ
before k j = cond (nat_lt j k) j (j + 1)

moved_same : (e k j : ℕ) (t : Option Waiting) → waits e j (moved_up e k t) ≡ waits e (before k j) t
moved_same e k j None = refl
moved_same e k j (Some w) = grind (arith, nat_tests)

moved_other : (d e k j : ℕ) (t : Option Waiting) → d ≢ e → waits d j (moved_up e k t) ≡ waits d j t
moved_other d e k j None h = refl
moved_other d e k j (Some w) h = grind (arith, nat_tests)

toward_same : (e k : ℕ) (t : Option Waiting) → cond (toward_end e (moved_up e k t)) 1 0 + cond (waits e k t) 1 0 ≡ cond (toward_end e t) 1 0
toward_same e k None = refl
toward_same e k (Some w) = grind (arith, nat_tests)

toward_other : (d e k : ℕ) (t : Option Waiting) → d ≢ e → toward_end d (moved_up e k t) ≡ toward_end d t
toward_other d e k None h = refl
toward_other d e k (Some w) h = grind (arith, nat_tests)

-- a list of the messages by their numbers is the queue
is_order : (e : ℕ) (l : List Record) (q : Messages) → length q ≡ waiting e l → ((k : ℕ) → k < waiting e l → slice_index_or q k [] ≡ message_numbered e k l) → q ≡ in_order e l
is_order e l q n f = fill_by_all (λ k. message_numbered e k l) q (waiting e l) [] n f

same_order : (e : ℕ) (l m : List Record) → waiting e m ≡ waiting e l → ((k : ℕ) → k < waiting e l → message_numbered e k m ≡ message_numbered e k l) → in_order e m ≡ in_order e l
same_order e l m n f = is_order e l (in_order e m) (length-order e m ∙ n) (λ k h. at_order e k m (omega arith) ∙ f k h)

-- the message with a number, if there is one
pub some_numbered : (e k : ℕ) (l : List Record) → Numbered l → 0 < holders e k l → k < waiting e l
some_numbered e k l u h = let n = u e k in grind (arith, nat_tests)

pub none_numbered : (e k : ℕ) (l : List Record) → Numbered l → holders e k l ≡ 0 → waiting e l ≤ k
none_numbered e k l u h = let n = u e k in grind (arith, nat_tests)

-- As a message goes, each number names the message that the number before named
numbered_over : (d j i e k : ℕ) (l : List Record) → ((t : Option Waiting) → waits d j (moved_up e k t) ≡ waits d i t) → message_numbered d j (map (with_moved_up e k) l) ≡ message_numbered d i l
numbered_over d j i e k [] w = refl
numbered_over d j i e k (r ∷ l) w =
    ap (λ b. message (cond b (Some (with_moved_up e k r)) (find (λ (x : Record). waits d j x.tag) (map (with_moved_up e k) l)))) (w r.tag)
    ∙ go (waits d i r.tag) _ _ (numbered_over d j i e k l w)
  where
    message : Option Record → List ℕ
    message o = option_map_or (λ (x : Record). message_of x.slot) o []

    go : (b : Bool) (o p : Option Record) → message o ≡ message p → message (cond b (Some (with_moved_up e k r)) o) ≡ message (cond b (Some r) p)
    go true o p same = refl
    go false o p same = same

holders_over : (d j i e k : ℕ) (l : List Record) → ((t : Option Waiting) → waits d j (moved_up e k t) ≡ waits d i t) → holders d j (map (with_moved_up e k) l) ≡ holders d i l
holders_over d j i e k l w =
    sum_over (with_moved_up e k) (λ r. cond (waits d j r.tag) 1 0) (λ r. cond (waits d i r.tag) 1 0) (λ r. ap (λ b. cond b 1 0) (w r.tag)) l

as_many : (d e k : ℕ) (l : List Record) → d ≢ e → waiting d (map (with_moved_up e k) l) ≡ waiting d l
as_many d e k l h =
    sum_over (with_moved_up e k) (λ r. cond (toward_end d r.tag) 1 0) (λ r. cond (toward_end d r.tag) 1 0) (λ r. ap (λ b. cond b 1 0) (toward_other d e k r.tag h)) l

fewer : (e k : ℕ) (l : List Record) → Numbered l → k < waiting e l → waiting e (map (with_moved_up e k) l) + 1 ≡ waiting e l
fewer e k l u h =
    let one : holders e k l ≡ 1 = let n = u e k in grind (arith, nat_tests) in
    let moved = sum_over (with_moved_up e k) (λ r. cond (toward_end e r.tag) 1 0) (λ r. cond (toward_end e (moved_up e k r.tag)) 1 0) (λ r. refl) l in
    let both = sum_parts (λ (r : Record). cond (toward_end e (moved_up e k r.tag)) 1 0) (λ r. cond (waits e k r.tag) 1 0) (λ r. cond (toward_end e r.tag) 1 0) (λ r. toward_same e k r.tag) l in
    omega arith

before_within : (j k n m : ℕ) → k < n → m + 1 ≡ n → ◌≡◌ {A = ℕ} (cond (nat_lt (before k j) n) 1 0) (cond (nat_lt j m) 1 0)
before_within j k n m h e = grind (arith, nat_tests)

-- the invariants and the queues as a message goes
pub removed_numbered : (e k : ℕ) (l : List Record) → Numbered l → k < waiting e l → Numbered (map (with_moved_up e k) l)
removed_numbered e k l u h d j =
    ⊎_elim
    (λ (z : d ≡ e). let P : ℕ → Type 0 = λ c. holders c j (map (with_moved_up e k) l) ≡ cond (nat_lt j (waiting c (map (with_moved_up e k) l))) 1 0 in
    subst P (sym z) (holders_over e j (before k j) e k l (moved_same e k j) ∙ u e (before k j) ∙ before_within j k (waiting e l) (waiting e (map (with_moved_up e k) l)) h (fewer e k l u h)))
    (λ z. holders_over d j j e k l (λ t. moved_other d e k j t z) ∙ u d j ∙ ap (λ n. cond (nat_lt j n) 1 0) (sym (as_many d e k l z)))
    (cases_eq d e)

pub removed_within : (e k c : ℕ) (l : List Record) → Numbered l → k < waiting e l → ((d : ℕ) → waiting d l ≤ c) → (d : ℕ) → waiting d (map (with_moved_up e k) l) ≤ c
removed_within e k c l u h w d =
    let n = w d in
    ⊎_elim
    (λ (z : d ≡ e). let P : ℕ → Type 0 = λ b. waiting b (map (with_moved_up e k) l) ≤ c in subst P (sym z) (omega (arith, fewer e k l u h, w e)))
    (λ z. omega (arith, as_many d e k l z))
    (cases_eq d e)

pub removed_other : (d e k : ℕ) (l : List Record) → d ≢ e → in_order d (map (with_moved_up e k) l) ≡ in_order d l
removed_other d e k l z = same_order d l (map (with_moved_up e k) l) (as_many d e k l z) (λ j h. numbered_over d j j e k l (λ t. moved_other d e k j t z))

pub removed_same : (e k : ℕ) (l : List Record) → Numbered l → k < waiting e l → in_order e (map (with_moved_up e k) l) ≡ without k (in_order e l)
removed_same e k l u h =
    let q : Messages = in_order e l in
    let m : List Record = map (with_moved_up e k) l in
    let lq = length-order e l in
    let n = fewer e k l u h in
    let hq : k < length q = omega arith in
    let at : (j : ℕ) → j < waiting e m → slice_index_or (remove q k) j [] ≡ message_numbered e j m = λ j i.
    (⊎_elim
    (λ (b : j < k). get_or-remove_below q k [] j b hq ∙ at_order e j l (omega arith) ∙ ap (λ v. message_numbered e v l) (sym (cond-true (nat_lt j k) j (j + 1) (grind (arith, nat_tests)))))
    (λ b. get_or-remove_above q k [] j b hq ∙ at_order e (j + 1) l (omega arith) ∙ ap (λ v. message_numbered e v l) (sym (cond-false (nat_lt j k) j (j + 1) (grind (arith, nat_tests)))))
    (cases_lt j k))
    ∙ sym (numbered_over e j (before k j) e k l (moved_same e k j)) in
    sym (ap (λ v. take k q ++ drop v q) (add-one k) ∙ is_order e m (remove q k) (omega (arith, length-remove q k hq)) at)

-- as a message comes, it is written into a free record, with the number behind the others
abbrev pub record_of : End → ℕ → Slot → Record
record_of end n s = record { tag = Some (record { end = end; number = n }); slot = s }

numbered_set_other : (d k : ℕ) (l : List Record) (i : ℕ) (r : Record) → waits d k (get_or l i r).tag ≡ false → waits d k r.tag ≡ false → message_numbered d k (slice_set l i r) ≡ message_numbered d k l
numbered_set_other d k l i r o w = ap (λ f. option_map_or (λ (x : Record). message_of x.slot) f []) (find_past (λ (x : Record). waits d k x.tag) l i r r o w)

found_alone : {X : Type 0} (p : X → Bool) (xs : List X) (i : ℕ) (y : X) → i < length xs → count_by p xs ≡ 0 → p y ≡ true → find p (set xs i y) ≡ Some y
found_alone p [] i y h n w = absurd (omega arith)
found_alone p (x ∷ xs) zero y h n w = cond-true (p y) _ _ w
found_alone p (x ∷ xs) (suc i) y h n w =
    let more = sum_by-cons (λ z. cond (p z) 1 0) x xs in
    let no : p x ≡ false = grind (arith, nat_tests) in
    cond-false (p x) _ _ no ∙ found_alone p xs i y (omega arith) (omega arith) w

numbered_set_same : (d k : ℕ) (l : List Record) (i : ℕ) (r : Record) → i < length l → holders d k l ≡ 0 → waits d k r.tag ≡ true → message_numbered d k (slice_set l i r) ≡ message_of r.slot
numbered_set_same d k l i r h o w = ap (λ f. option_map_or (λ (x : Record). message_of x.slot) f []) (found_alone (λ (x : Record). waits d k x.tag) l i r h o w)

added_waiting : (d : ℕ) (end : End) (n : ℕ) (s : Slot) (l : List Record) (i : ℕ) → FreeAt l i →
    waiting d (slice_set l i (record_of end n s)) ≡ waiting d l + cond (end_number end == d) 1 0
added_waiting d end n s l i f = let r : Record = record_of end n s in count_set (λ x. toward_end d x.tag) l i r f.0 (ap (λ t. toward_end d t) (f.1 r))

added_holders : (d k : ℕ) (end : End) (n : ℕ) (s : Slot) (l : List Record) (i : ℕ) → FreeAt l i →
    holders d k (slice_set l i (record_of end n s)) ≡ holders d k l + cond (end_number end == d && n == k) 1 0
added_holders d k end n s l i f = let r : Record = record_of end n s in count_set (λ x. waits d k x.tag) l i r f.0 (ap (λ t. waits d k t) (f.1 r))

-- the invariants and the queues as a message comes
pub added_numbered : (end : End) (n : ℕ) (s : Slot) (l : List Record) (i : ℕ) → n ≡ waiting (end_number end) l → Numbered l → FreeAt l i →
    Numbered (slice_set l i (record_of end n s))
added_numbered end n s l i x u f d k =
    let a = added_waiting d end n s l i f in
    let b = added_holders d k end n s l i f in
    let o = u d k in
    ⊎_elim
    (λ (z : end_number end ≡ d). let w : n ≡ waiting d l = x ∙ ap (λ v. waiting v l) z in grind (arith, nat_tests))
    (λ z. grind (arith, nat_tests))
    (cases_eq (end_number end) d)

pub added_within : (end : End) (n : ℕ) (s : Slot) (l : List Record) (i c : ℕ) → FreeAt l i → waiting (end_number end) l < c → ((d : ℕ) → waiting d l ≤ c) →
    (d : ℕ) → waiting d (slice_set l i (record_of end n s)) ≤ c
added_within end n s l i c f v w d =
    let a = added_waiting d end n s l i f in
    let o = w d in
    ⊎_elim
    (λ (z : end_number end ≡ d). let e : waiting (end_number end) l ≡ waiting d l = ap (λ b. waiting b l) z in grind (arith, nat_tests))
    (λ z. grind (arith, nat_tests))
    (cases_eq (end_number end) d)

pub added_other : (d : ℕ) (end : End) (n : ℕ) (s : Slot) (l : List Record) (i : ℕ) → FreeAt l i → d ≢ end_number end →
    in_order d (slice_set l i (record_of end n s)) ≡ in_order d l
added_other d end n s l i f z =
    same_order d l (slice_set l i (record_of end n s))
    (let a = added_waiting d end n s l i f in grind (arith, nat_tests))
    (λ k j. numbered_set_other d k l i (record_of end n s) (ap (λ t. waits d k t) (f.1 (record_of end n s))) (grind (arith, nat_tests)))

pub added_same : (end : End) (n : ℕ) (s : Slot) (l : List Record) (i : ℕ) → n ≡ waiting (end_number end) l → Numbered l → FreeAt l i →
    in_order (end_number end) (slice_set l i (record_of end n s)) ≡ in_order (end_number end) l ++ (message_of s ∷ [])
added_same end n s l i x u f =
    let e : ℕ = end_number end in
    let r : Record = record_of end n s in
    let m : List Record = set l i r in
    let g : ℕ → List ℕ = λ k. message_numbered e k m in
    let more : waiting e m ≡ n + 1 = let a = added_waiting e end n s l i f in grind (arith, nat_tests) in
    let none : holders e n l ≡ 0 = let o = u e n in grind (arith, nat_tests) in
    let front : map g (range_with_len 0 n) ≡ in_order e l =
    is_order e l (map g (range_with_len 0 n)) (length-map-range_with_len g 0 n ∙ x)
    (λ k j. get_or-map-range_with_len g 0 n k k [] (omega arith) (omega arith) ∙ numbered_set_other e k l i r (ap (λ t. waits e k t) (f.1 r)) (grind (arith, nat_tests))) in
    ap (λ v. map g (range_with_len 0 v)) more
    ∙ map-range_with_len_more g 0 n n (omega arith)
    ∙ ap (λ v. v ++ (g n ∷ [])) front
    ∙ ap (λ v. in_order e l ++ (v ∷ [])) (numbered_set_same e n l i r f.0 none (grind (arith, nat_tests)))

-- where the way toward an end has room, a record is free
pub some_free : (end : End) (l : List Record) → waiting (end_number end) l < length l / 2 → ((d : ℕ) → waiting d l ≤ length l / 2) → 0 < unoccupied l
some_free Zero l h w = omega (arith, all_records l, w 1)
some_free One l h w = omega (arith, all_records l, w 0)
