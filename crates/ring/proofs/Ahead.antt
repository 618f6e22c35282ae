-- The other way to close a gap: the messages behind it move one turn ahead. And taking the oldest by itself.
use Rattle.std.specs.Prelude.{◌≡◌, ℕ, suc, ◌+◌, ◌<◌, ◌≤◌, cond, ◌&&◌, List, [], ◌++◌, length, take, drop, set, nat_le, nat_lt, slice_set}
use Rattle.std.proofs.Common.{sym, ap, ◌∙◌, subst, ⊎_elim, arith, add-one, length-drop}
use Rattle.std.proofs.lemmas.Bool.Decides.{nat_tests}
use Rattle.std.proofs.lemmas.Bool.{cases_lt, cases_eq}
use Rattle.std.proofs.lemmas.List.{get_or-drop}
use Rattle.std.proofs.lemmas.List.Edits.{length-remove, get_or-remove_below, get_or-remove_above}
use Rattle.route.specs.declared.slot.Slot.{Slot}
use Rattle.route.specs.Ways.{Messages, without}
use Rattle.route.specs.Stored.{message_of}
use Rattle.ring.specs.Turns.{message_at, turn, turns}
use Rattle.ring.specs.Rounds.{wrap, place}
use Rattle.ring.specs.Sound.{length-turns, at_turns, place_below}
use Rattle.ring.proofs.Places.{place_apart, place_next}
use Rattle.ring.proofs.Writes.{is_turns, at_same, at_other}

pub turns_take : (l : List Slot) (e n h c m : ℕ) → h < n → c ≤ n → m + 1 ≡ c → turns l e n (wrap n (h + 1)) m ≡ drop 1 (turns l e n h c)
turns_take l e n h c m a b z =
    sym (is_turns (drop 1 (turns l e n h c)) l e n (wrap n (h + 1)) m
    (length-drop 1 (turns l e n h c) ∙ omega (arith, length-turns l e n h c))
    (λ k i. get_or-drop 1 (turns l e n h c) k [] ∙ at_turns l e n h c (1 + k) (omega arith) ∙ ap (message_at l) (sym (place_next e n h k a (omega arith)))))

-- the turn that stands at the turn j once those from i to k have moved one turn ahead
abbrev pub shifted : ℕ → ℕ → ℕ → ℕ
shifted i k j = cond (nat_le i j && nat_lt j k) (j + 1) j

pub turns_lose : (l l' : List Slot) (e n h i c m : ℕ) → i < c → m + 1 ≡ c →
    ((j : ℕ) → j < c → turn l' e n h j ≡ turn l e n h (shifted i m j)) → turns l' e n h m ≡ without i (turns l e n h c)
turns_lose l l' e n h i c m b z f =
    let q : Messages = turns l e n h c in
    let lq = length-turns l e n h c in
    let bq : i < length q = omega (arith, lq) in
    let r : Messages = take i q ++ drop (suc i) q in
    let back : r ≡ turns l' e n h m = is_turns r l' e n h m (omega (arith, length-remove q i bq, lq))
    (λ k a. ⊎_elim
    (λ (y : k < i). get_or-remove_below q i [] k y bq ∙ at_turns l e n h c k (omega arith)
    ∙ ap (turn l e n h) (let t : k ≡ shifted i m k = grind (arith, nat_tests) in t) ∙ sym (f k (omega arith)))
    (λ (y : i ≤ k). get_or-remove_above q i [] k y bq ∙ at_turns l e n h c (k + 1) (omega arith)
    ∙ ap (turn l e n h) (let t : k + 1 ≡ shifted i m k = grind (arith, nat_tests) in t) ∙ sym (f k (omega arith)))
    (cases_lt k i)) in
    sym back ∙ ap (λ v. take i q ++ drop v q) (sym (add-one i))

-- one turn more moves ahead
pub shift_more : (l₀ l : List Slot) (x : Slot) (e n h i k c : ℕ) → e < 2 → h < n → c ≤ n → n + n ≤ length l → i ≤ k → k + 1 < c →
    message_of x ≡ turn l e n h (k + 1) →
    ((j : ℕ) → j < c → turn l e n h j ≡ turn l₀ e n h (shifted i k j)) →
    (j : ℕ) → j < c → turn (slice_set l (place e n h k) x) e n h j ≡ turn l₀ e n h (shifted i (k + 1) j)
shift_more l₀ l x e n h i k c p a b s d z read f j g =
    let l' : List Slot = set l (place e n h k) x in
    let P : ℕ → Type 0 = λ v. turn l' e n h v ≡ turn l₀ e n h (shifted i (k + 1) v) in
    ⊎_elim
    (λ (y : j ≡ k). subst P (sym y)
    (at_same l (place e n h k) x (omega (arith, place_below e n h k p a (omega arith))) ∙ read ∙ f (k + 1) z
    ∙ ap (turn l₀ e n h) (let t : shifted i k (k + 1) ≡ shifted i (k + 1) k = grind (arith, nat_tests) in t)))
    (λ y. at_other l (place e n h k) (place e n h j) x (place_apart e n h j k a (omega arith) (omega arith) y) ∙ f j g
    ∙ ap (turn l₀ e n h) (let t : shifted i k j ≡ shifted i (k + 1) j = grind (arith, nat_tests) in t))
    (cases_eq j k)
