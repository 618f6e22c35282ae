-- What is read from octets has every field within its limits.
use Rattle.std.proofs.Common.{◌≡◌, ℕ, suc, ◌+◌, ◌*◌, ◌<◌, ◌≤◌, Bool, true, ◌&&◌, leb, List, [], ◌∷◌, ◌++◌, length, get_or, IfOk, Ok, Err, Option, Result, sym, refl, subst, inl, inr, arith}
use Rattle.std.proofs.lemmas.List.{append-nil}
use Rattle.std.proofs.lemmas.Bool.{and_from, le-leb}
use Rattle.message.specs.declared.fault.Fault.{Fault}
use Rattle.message.specs.declared.content.Message.{Message}
use Rattle.message.specs.Content as content
use Rattle.message.specs.Content.{Content, within, reference_fits, class_fits, segment_fits}
use Rattle.message.specs.Meaning.{meaning, means}
use Rattle.reader.specs.Reading.{reading}
use Rattle.message.specs.Layout.{IsReference, Points, HasCredit, LaidOut}
use Rattle.reader.proofs.Sound.{sound}

-- octets, each below 256
abbrev pub Octets : List ℕ → Type 0
Octets xs = (i : ℕ) → get_or xs i 0 < 256

behind : (x : ℕ) (xs l : List ℕ) → l ≡ x ∷ xs → Octets l → (x < 256) × Octets xs
behind x xs l e o = let h : Octets (x ∷ xs) = subst Octets e o in (h 0, λ i. h (suc i))

reference_limit : (v : ℕ) (s xs : List ℕ) → IsReference v s → Octets (s ++ xs) → (reference_fits v ≡ true) × Octets xs
reference_limit v s xs (low, middle, high, is, value, above) o =
    let h : Octets (low ∷ middle ∷ high ∷ xs) = subst (λ (ys : List ℕ). Octets (ys ++ xs)) is o in
    (small low middle high v (h 0) (h 1) (h 2) value above, λ i. h (suc (suc (suc i))))
  where
    small : (low middle high v : ℕ) → low < 256 → middle < 256 → high < 256 → v ≡ low + 256 * middle + 65536 * high → 0 < v → reference_fits v ≡ true
    small low middle high v a b c e f = and_from _ _ (le-leb 1 v f) (le-leb v 16777215 (omega arith))

credit_limit : (class credit : ℕ) (found : Option ℕ) → HasCredit class credit found → class_fits class credit ≡ true
credit_limit class credit found (inl (two, none, nothing)) = rw (two, none) refl
credit_limit class credit found (inr (three, known, low, high)) = rw (three, le-leb 1 credit low, le-leb credit 127 high) refl

subsystem_limit : (due : Bool) (subsystem : ℕ) (found : Option ℕ) (xs : List ℕ) → Points due (2 ∷ 66 ∷ subsystem ∷ []) found xs → Octets xs → subsystem ≤ 255
subsystem_limit due subsystem found xs (inl (e, none)) o = let h : Octets (0 ∷ 2 ∷ 66 ∷ subsystem ∷ []) = subst Octets e o in let s = h 3 in omega arith
subsystem_limit due subsystem found xs (inr (left, e, is)) o = let h : Octets (4 ∷ 2 ∷ 66 ∷ subsystem ∷ left) = subst Octets e o in let s = h 3 in omega arith

twice_limit : (x : ℕ) → x * 2 < 256 → leb x 127 ≡ true
twice_limit x h = le-leb x 127 (omega arith)

more_limit : (x m : ℕ) → x * 2 + m < 256 → leb x 127 ≡ true
more_limit x m h = le-leb x 127 (omega arith)

segment_limit : (segment : List ℕ) → 1 ≤ length segment → length segment < 256 → segment_fits segment ≡ true
segment_limit segment low high = and_from _ _ (le-leb 1 (length segment) low) (le-leb (length segment) 255 (omega arith))

two_limits : (type destination source : ℕ) (d s l : List ℕ) → l ≡ type ∷ d ++ s → IsReference destination d → IsReference source s → Octets l → (reference_fits destination && reference_fits source) ≡ true
two_limits type destination source d s l e is_d is_s o =
    let r = reference_limit destination d s is_d (behind type _ l e o).1 in
    let q = reference_limit source s [] is_s (subst Octets (sym (append-nil s)) r.1) in
    and_from _ _ r.0 q.0

pub limits : (c : Content) (l : List ℕ) → Octets l → LaidOut c l → within c ≡ true
limits (content.connection_request source class credit subsystem) l o (s, xs, found, e, is, points, some, has) =
    let r = reference_limit source s (class ∷ 2 ∷ xs) is (behind 1 _ l e o).1 in
    let b = behind 2 xs _ refl (behind class (2 ∷ xs) _ refl r.1).1 in
    and_from _ _ r.0 (and_from _ _ (credit_limit class credit found has) (and_from _ _ (le-leb 1 subsystem some) (le-leb subsystem 255 (subsystem_limit true subsystem found xs points b.1))))
limits (content.connection_confirm destination source class credit) l o (d, s, xs, found, e, is_d, is_s, points, has) =
    let r = reference_limit destination d _ is_d (behind 2 _ l e o).1 in
    let q = reference_limit source s _ is_s r.1 in
    and_from _ _ r.0 (and_from _ _ q.0 (credit_limit class credit found has))
limits (content.connection_refused destination cause) l o (d, xs, found, e, is, listed, points) =
    and_from _ _ (reference_limit destination d _ is (behind 3 _ l e o).1).0 (le-leb cause 15 listed)
limits (content.released destination source cause) l o (d, s, xs, found, e, is_d, is_s, listed, points) =
    let r = reference_limit destination d _ is_d (behind 4 _ l e o).1 in
    let q = reference_limit source s _ is_s r.1 in
    and_from _ _ r.0 (and_from _ _ q.0 (le-leb cause 15 listed))
limits (content.release_complete destination source) l o (d, s, e, is_d, is_s) = two_limits 5 destination source d s l e is_d is_s o
limits (content.data_form_1 destination more segment) l o (d, e, is, some) =
    let r = reference_limit destination d _ is (behind 6 _ l e o).1 in
    and_from _ _ r.0 (segment_limit segment some (r.1 2))
limits (content.data_form_2 destination send receive more segment) l o (d, e, is, some) =
    let r = reference_limit destination d _ is (behind 7 _ l e o).1 in
    and_from _ _ r.0 (and_from _ _ (twice_limit send (r.1 0)) (and_from _ _ (more_limit receive _ (r.1 1)) (segment_limit segment some (r.1 3))))
limits (content.data_acknowledgement destination receive credit) l o (d, e, is, low, high) =
    let r = reference_limit destination d _ is (behind 8 _ l e o).1 in
    and_from _ _ r.0 (and_from _ _ (twice_limit receive (r.1 0)) (and_from _ _ (le-leb 1 credit low) (le-leb credit 127 high)))
limits (content.reset_request destination source cause) l o (d, s, e, is_d, is_s, listed) =
    let r = reference_limit destination d _ is_d (behind 13 _ l e o).1 in
    let q = reference_limit source s _ is_s r.1 in
    and_from _ _ r.0 (and_from _ _ q.0 (le-leb cause 15 listed))
limits (content.reset_confirm destination source) l o (d, s, e, is_d, is_s) = two_limits 14 destination source d s l e is_d is_s o
limits (content.error destination cause) l o (d, e, is, listed) =
    and_from _ _ (reference_limit destination d _ is (behind 15 _ l e o).1).0 (le-leb cause 4 listed)

pub read_limits : (r : Result Message Fault) (l : List ℕ) → Octets l → means r ≡ reading l → IfOk r (λ m. within (meaning m) ≡ true)
read_limits (Ok m) l o e = limits (meaning m) l o (sound l (meaning m) (sym e)).1
read_limits (Err fault) l o e = tt
