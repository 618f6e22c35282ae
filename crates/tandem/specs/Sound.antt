-- What two routes in a row mean is sound.
use Rattle.std.specs.Prelude.{◌≡◌, ℕ, ◌+◌, ◌-◌, ◌<◌, ◌≤◌, true, false, cond, [], ◌++◌, length, ◌==◌, slice_index_or, refl}
use Rattle.std.proofs.Common.{sym, ap, ◌∙◌, subst, ⊎_elim, arith, length-append}
use Rattle.std.proofs.lemmas.Bool.{cases_lt}
use Rattle.std.proofs.lemmas.List.{get_or_append_left, get_or-append_right}
use Rattle.route.specs.Ways.{Ways, Messages, Sound, toward, joined}

-- the lists of both
pub toward-joined : (e : ℕ) (a b : Ways) → toward e (joined a b) ≡ toward e b ++ toward e a
toward-joined e a b =
    elim (e == 0) as (λ t. cond t (b.zero ++ a.zero) (b.one ++ a.one) ≡ cond t b.zero b.one ++ cond t a.zero a.one)
    [ true ↦ refl | false ↦ refl ]

pub length-joined : (e : ℕ) (a b : Ways) → length (toward e (joined a b)) ≡ length (toward e b) + length (toward e a)
length-joined e a b = ap length (toward-joined e a b) ∙ length-append (toward e b) (toward e a)

-- the law: messages of 1 to 268 octets, and the sum of two capacities
abbrev Sized : Messages → Type 0
Sized l = (k : ℕ) → k < length l → (0 < length (slice_index_or l k [])) × (length (slice_index_or l k []) ≤ 268)

sized-append : (x y : Messages) → Sized x → Sized y → Sized (x ++ y)
sized-append x y p q k h =
    ⊎_elim
    (λ (l : k < length x). rw (get_or_append_left x y [] k l) (p k l))
    (λ (l : length x ≤ k). let n : k - length x < length y = omega (arith, length-append x y) in rw (get_or-append_right x y (length x) k [] refl l) (q (k - length x) n))
    (cases_lt k (length x))

sized-joined : (e : ℕ) (a b : Ways) → Sound a → Sound b → Sized (toward e (joined a b))
sized-joined e a b p q =
    subst Sized (sym (toward-joined e a b))
    (sized-append (toward e b) (toward e a) (λ k h. (q.low e k h, q.high e k h)) (λ k h. (p.low e k h, p.high e k h)))

pub sound_joined : (a b : Ways) → Sound a → Sound b → Sound (joined a b)
sound_joined a b p q = record {
  some = omega (arith, p.some);
  within = (λ e. omega (arith, length-joined e a b, p.within e, q.within e));
  low = (λ e k h. (sized-joined e a b p q k h).0);
  high = (λ e k h. (sized-joined e a b p q k h).1);
}
