-- Lists with some messages left out.
use Rattle.std.proofs.Common.{◌≡◌, ℕ, zero, suc, [], ◌∷◌, ◌++◌, take, drop, sym, subst, add-one}
use Rattle.route.specs.Ways.{Messages, without}
use Rattle.route.specs.Laws.{InOrder, none, both, lost}

pub whole : (a : Messages) → InOrder a a
whole [] = none
whole (m ∷ a) = both m (whole a)

pub whole_of : (a b : Messages) → a ≡ b → InOrder a b
whole_of a b h = subst (λ x. InOrder a x) h (whole a)

pub through : {a b c : Messages} → InOrder a b → InOrder b c → InOrder a c
through p none = p
through p (lost m q) = lost m (through p q)
through (both m p) (both n q) = both m (through p q)
through (lost m p) (both n q) = lost m (through p q)

pub behind : (x : Messages) {a b : Messages} → InOrder a b → InOrder (x ++ a) (x ++ b)
behind [] p = p
behind (m ∷ x) p = both m (behind x p)

pub ahead_of : {a b : Messages} (x : Messages) → InOrder a b → InOrder (a ++ x) (b ++ x)
ahead_of x none = whole x
ahead_of x (both m p) = both m (ahead_of x p)
ahead_of x (lost m p) = lost m (ahead_of x p)

pub one_lost : (i : ℕ) (l : Messages) → InOrder (without i l) l
one_lost i l = subst (λ n. InOrder (take i l ++ drop n l) l) (sym (add-one i)) (go i l)
  where
    go : (i : ℕ) (l : Messages) → InOrder (take i l ++ drop (suc i) l) l
    go zero [] = none
    go (suc i) [] = none
    go zero (m ∷ l) = lost m (whole l)
    go (suc i) (m ∷ l) = both m (go i l)
