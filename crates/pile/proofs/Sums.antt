-- Sums over a list that is changed, over two parts, of nothing, and of ones.
use Rattle.std.proofs.Common.{◌≡◌, ℕ, ◌+◌, List, [], ◌∷◌, map, length, sum_by, refl, arith}
use Rattle.std.proofs.lemmas.List.Sums.{sum_by-cons}

pub sum_over : {X : Type 0} (f : X → X) (g h : X → ℕ) → ((x : X) → g (f x) ≡ h x) → (l : List X) → sum_by g (map f l) ≡ sum_by h l
sum_over f g h e [] = refl
sum_over f g h e (x ∷ l) =
    let rest = sum_over f g h e l in
    let here = e x in
    omega (arith, sum_by-cons g (f x) (map f l), sum_by-cons h x l)

pub sum_parts : {X : Type 0} (f g h : X → ℕ) → ((x : X) → f x + g x ≡ h x) → (l : List X) → sum_by f l + sum_by g l ≡ sum_by h l
sum_parts f g h e [] = refl
sum_parts f g h e (x ∷ l) =
    let rest = sum_parts f g h e l in
    let here = e x in
    omega (arith, sum_by-cons f x l, sum_by-cons g x l, sum_by-cons h x l)

pub sum_none : {X : Type 0} (f : X → ℕ) → ((x : X) → f x ≡ 0) → (l : List X) → sum_by f l ≡ 0
sum_none f e [] = refl
sum_none f e (x ∷ l) = let rest = sum_none f e l in let here = e x in omega (arith, sum_by-cons f x l)

pub sum_ones : {X : Type 0} (l : List X) → sum_by (λ _. 1) l ≡ length l
sum_ones [] = refl
sum_ones (x ∷ l) = let rest = sum_ones l in omega (arith, sum_by-cons (λ _. 1) x l)
