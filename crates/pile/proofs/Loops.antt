-- A loop over all records.
use Rattle.std.proofs.Common.{◌≡◌, ℕ, ◌+◌, ◌<◌, List, ◌++◌, map, length, get_or, take, drop, set, Vec, sym, ap, ◌∙◌}
use Rattle.std.specs.Vec.{with_items}
use Rattle.std.proofs.lemmas.List.{with_items_is, length-map}
use Rattle.std.proofs.lemmas.List.Edits.{map_over_more}

-- a loop that writes f x over each element x
pub over_more : {X : Type 0} (f : X → X) (xs ys : List X) (i : ℕ) (x y : X) → i < length xs → ys ≡ map f (take i xs) ++ drop i xs → x ≡ get_or ys i x → y ≡ f x →
    set ys i y ≡ map f (take (i + 1) xs) ++ drop (i + 1) xs
over_more f xs ys i x y h inv is e = ap (λ v. set ys i v) e ∙ map_over_more f xs ys i x h inv is

-- a Vec whose elements such a loop has written over
pub written_over : {X Z : Type 0} (v : Vec X Z) (ys xs : List X) (f : X → X) → ys ≡ map f xs → xs ≡ v.items → (with_items v ys).items ≡ map f v.items
written_over v ys xs f e a =
    let w : ys ≡ map f v.items = e ∙ ap (map f) a in
    with_items_is v ys (ap length w ∙ length-map v.items f ∙ sym v.ok.0) ∙ w
