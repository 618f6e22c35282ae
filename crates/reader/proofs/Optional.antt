-- The optional part: reading it against its layout.
use Rattle.std.proofs.Common.{◌≡◌, ℕ, zero, suc, ◌+◌, ◌<◌, ◌≤◌, Bool, true, false, cond, eqb, ◌⊎◌, List, [], ◌∷◌, ◌++◌, length, get_or, Some, None, Ok, Option, sym, refl, ap, ◌∙◌, subst, inl, inr, arith, lit≤}
use Rattle.std.proofs.lemmas.List.{length-append, length-drop}
use Rattle.std.proofs.lemmas.Bool.{eq-eqb, ne_eqb, eqb-true, eqb-false, le-leb}
use Rattle.std.proofs.lemmas.Bool.Decides.{nat_tests}
use Rattle.message.specs.declared.fault.Refusal.TheVariants.{VariablePart, OptionalPart}
use Rattle.reader.specs.Window.{Window, then, lift}
use Rattle.reader.specs.Reading.{octet, ends, counted, credit_after, parameters, any_parameters, points_here, optional_part, agreed}
use Rattle.message.specs.Layout.{IsOptional, ended, with_credit, with_other, HasCredit}
use Rattle.reader.proofs.Fields.{rest, first, octet_front, octet_takes, ends_front, ends_takes, counted_front, counted_takes, points_front, points_takes}

-- the credit of the whole, from the one found before and the one of the part itself: there are not two
abbrev pub Joined : Option ℕ → Option ℕ → Option ℕ → Type 0
Joined None own whole = whole ≡ own
Joined (Some x) own whole = (own ≡ None) × (whole ≡ Some x)

joined_none : (found whole : Option ℕ) → Joined found None whole → whole ≡ found
joined_none None whole e = e
joined_none (Some x) whole e = e.1

none_joined : (found : Option ℕ) → Joined found None found
none_joined None = refl
none_joined (Some x) = (refl, refl)

one : (xs : List ℕ) → length xs ≡ 1 → xs ≡ get_or xs 0 0 ∷ []
one [] e = absurd (omega arith)
one (x ∷ []) e = refl
one (x ∷ y ∷ xs) e = absurd (omega arith)

-- a parameter is the credit, or is stepped over
Parameter : Bool → Option ℕ → ℕ → List ℕ → Option ℕ → Type 0
Parameter due found name part known =
    ((due ≡ true) × (name ≡ 9) × (found ≡ None) × (length part ≡ 1) × (known ≡ Some (get_or part 0 0))) ⊎ ((known ≡ found) × (due ≡ true → name ≡ 9 → ⊥))

parameter_front : (due : Bool) (found : Option ℕ) (named name : ℕ) (part : List ℕ) (known : Option ℕ) → credit_after due found named name part ≡ Ok known → Parameter due found name part known
unfolding credit_after Parameter
parameter_front false found named name part known e = inr (let h = e in cc, λ t n. cc)
parameter_front true found named name part known e = at found (eqb name 9) refl e
  where
    at : (found : Option ℕ) (b : Bool) → eqb name 9 ≡ b → credit_after true found named name part ≡ Ok known → Parameter true found name part known
    at found false n h = inr (let k = rw n at h in cc, λ t m. eqb-false name 9 n m)
    at (Some x) true n h = let k = rw n at h in cc
    at None true n h = let k = rw n at h in
        let m : (length part ≡ 1) × (known ≡ Some (get_or part 0 0)) = (grind (arith, nat_tests), grind (arith, nat_tests)) in
        inl (refl, eqb-true name 9 n, refl, m.0, m.1)

-- what is read as an optional part is one
pub parameters_front : (depth : ℕ) (due : Bool) (found : Option ℕ) (w : Window) (p : Option ℕ × Window) → parameters depth due found w ≡ Ok p →
    (own : Option ℕ) × IsOptional due own (rest w) × Joined found own p.0
unfolding parameters Parameter
parameters_front zero due found w p e = absurd cc
parameters_front (suc depth) due found w p e =
    let a = first (octet OptionalPart w) _ p e in
    let f = octet_front OptionalPart w a.0 a.1 in
    named a.0 f.0 (eqb a.0.0 0) refl a.2 (λ known v. parameters_front depth due known v p)
  where
    own_part : (known : Option ℕ) (part : List ℕ) (name : ℕ) (v u : Window) → (name ≡ 0 → ⊥) → rest w ≡ name ∷ rest v → rest v ≡ length part ∷ part ++ rest u → 1 ≤ length part →
        Parameter due found name part known → (own : Option ℕ) × IsOptional due own (rest u) × Joined known own p.0 → (own : Option ℕ) × IsOptional due own (rest w) × Joined found own p.0
    own_part known part name v u other f g some (inr (same, free)) (own, is, joined) = (
      own,
      subst (λ (xs : List ℕ). IsOptional due own xs) (sym (f ∙ ap (λ xs. name ∷ xs) g)) (with_other part other free some is),
      subst (λ (k : Option ℕ). Joined k own p.0) same joined,
    )
    own_part known part name v u other f g some (inl (is_due, nine, none, single, credit)) (own, is, joined) =
        let both : (own ≡ None) × (p.0 ≡ Some (get_or part 0 0)) = subst (λ (k : Option ℕ). Joined k own p.0) credit joined in
        let whole : rest w ≡ 9 ∷ 1 ∷ get_or part 0 0 ∷ rest u = f ∙ rw (nine, g, single) (ap (λ xs. 9 ∷ 1 ∷ xs ++ rest u) (one part single)) in (
          Some (get_or part 0 0),
          subst (λ (xs : List ℕ). IsOptional due (Some (get_or part 0 0)) xs) (sym whole) (with_credit is_due (subst (λ (k : Option ℕ). IsOptional due k (rest u)) both.0 is)),
          subst (λ (k : Option ℕ). Joined k (Some (get_or part 0 0)) p.0) (sym none) both.1,
        )

    named : (a : ℕ × Window) → rest w ≡ a.0 ∷ rest a.1 → (b : Bool) → eqb a.0 0 ≡ b →
        cond (eqb a.0 0) (then (ends OptionalPart a.1) (λ u. Ok (found, u.1))) (then (counted OptionalPart w.place a.1) (λ q. then (lift (credit_after due found w.place a.0 q.0) q.1) (λ k. parameters depth due k.0 k.1))) ≡ Ok p →
        ((known : Option ℕ) (v : Window) → parameters depth due known v ≡ Ok p → (own : Option ℕ) × IsOptional due own (rest v) × Joined known own p.0) →
        (own : Option ℕ) × IsOptional due own (rest w) × Joined found own p.0
    named a f true n h deeper =
        let k : then (ends OptionalPart a.1) (λ u. Ok (found, u.1)) ≡ Ok p = rw n at h in
        let d = first (ends OptionalPart a.1) _ p k in
        let g = ends_front OptionalPart a.1 d.0 d.1 in
        let whole : rest w ≡ 0 ∷ [] = f ∙ rw (eqb-true a.0 0 n, g.0) refl in
        let same : p.0 ≡ found = let t = d.2 in cc in
        (None, subst (λ (xs : List ℕ). IsOptional due None xs) (sym whole) ended, subst (λ (x : Option ℕ). Joined found None x) (sym same) (none_joined found))
    named a f false n h deeper =
        let k : then (counted OptionalPart w.place a.1) (λ q. then (lift (credit_after due found w.place a.0 q.0) q.1) (λ k. parameters depth due k.0 k.1)) ≡ Ok p = rw n at h in
        let d = first (counted OptionalPart w.place a.1) _ p k in
        let g = counted_front OptionalPart a.1 w.place d.0 d.1 in
        let c = first (lift (credit_after due found w.place a.0 d.0.0) d.0.1) _ p d.2 in
        let j = first (credit_after due found w.place a.0 d.0.0) _ c.0 c.1 in
        let t : c.0 ≡ (j.0, d.0.1) = let x = j.2 in cc in
        own_part j.0 d.0.0 a.0 a.1 d.0.1 (λ z. eqb-false a.0 0 n z) f g.0 g.1
        (parameter_front due found w.place a.0 d.0.0 j.0 j.1) (deeper j.0 d.0.1 (rw t at c.2))

-- an optional part is read as what it is
pub parameters_takes : (due : Bool) {own : Option ℕ} {xs : List ℕ} → IsOptional due own xs → (depth : ℕ) (found whole : Option ℕ) (w : Window) → rest w ≡ xs → length xs < depth → Joined found own whole →
    (v : Window) × (parameters depth due found w ≡ Ok (whole, v))
unfolding parameters credit_after
parameters_takes due ended zero found whole w e h j = absurd (omega arith)
parameters_takes due ended (suc depth) found whole w e h j =
    let a = octet_takes OptionalPart w 0 [] e in
    (a.0, rw (a.1, ends_takes OptionalPart a.0 a.2, joined_none found whole j) refl)
parameters_takes due (with_credit {x = x} {rest = left} is_due is) zero found whole w e h j = absurd (omega arith)
parameters_takes due (with_credit {x = x} {rest = left} is_due is) (suc depth) (Some y) whole w e h j = let n = j.0 in cc
parameters_takes due (with_credit {x = x} {rest = left} is_due is) (suc depth) None whole w e h j =
    let a = octet_takes OptionalPart w 9 (1 ∷ x ∷ left) e in
    let b = counted_takes OptionalPart a.0 w.place (x ∷ []) left (lit≤ tt) a.2 in
    let c = parameters_takes due is depth (Some x) whole b.0 b.2 (omega arith) (refl, j) in
    (c.0, rw (a.1, b.1, is_due, ← c.1) (rw is_due refl))
parameters_takes due (with_other {found = own} {name = name} part {rest = left} other free some is) zero found whole w e h j = absurd (omega arith)
parameters_takes due (with_other {found = own} {name = name} part {rest = left} other free some is) (suc depth) found whole w e h j =
    let a = octet_takes OptionalPart w name (length part ∷ part ++ left) e in
    let b = counted_takes OptionalPart a.0 w.place part left some a.2 in
    let c = parameters_takes due is depth found whole b.0 b.2 (omega (arith, length-append part left)) j in
    let over : credit_after due found w.place name part ≡ Ok found = stepped due found w.place name part free in
    (c.0, rw (a.1, ne_eqb name 0 other, b.1, over) c.1)
  where
    stepped : (due : Bool) (found : Option ℕ) (place name : ℕ) (part : List ℕ) → (due ≡ true → name ≡ 9 → ⊥) → credit_after due found place name part ≡ Ok found
    stepped false found place name part free = refl
    stepped true found place name part free = rw (ne_eqb name 9 (free refl)) refl

-- O and what it points to
pub optional_front : (due : Bool) (o : ℕ × ℕ) (w : Window) (p : Option ℕ × Window) → optional_part due o w ≡ Ok p →
    ((o.1 ≡ 0) × (rest w ≡ []) × (p.0 ≡ None)) ⊎ ((o.0 + o.1 ≡ w.place) × IsOptional due p.0 (rest w))
unfolding optional_part
optional_front due o w p e = by (eqb o.1 0) refl
  where
    by : (b : Bool) → eqb o.1 0 ≡ b → ((o.1 ≡ 0) × (rest w ≡ []) × (p.0 ≡ None)) ⊎ ((o.0 + o.1 ≡ w.place) × IsOptional due p.0 (rest w))
    by true n =
        let h : then (ends VariablePart w) (λ u. Ok (None, u.1)) ≡ Ok p = rw n at e in
        let a = first (ends VariablePart w) _ p h in
        let f = ends_front VariablePart w a.0 a.1 in
        inl (eqb-true o.1 0 n, f.0, let t = a.2 in cc)
    by false n =
        let h : then (points_here o w) (λ u. any_parameters due None u.1) ≡ Ok p = rw n at e in
        let a = first (points_here o w) _ p h in
        let f = points_front w o a.0 a.1 in
        let g = parameters_front (suc (length a.0.1.octets)) due None a.0.1 p a.2 in
        inr (f.1, subst (λ (v : Window). IsOptional due p.0 (rest v)) f.0 (subst (λ (k : Option ℕ). IsOptional due k (rest a.0.1)) (sym g.2) g.1))

pub optional_none : (due : Bool) (o : ℕ × ℕ) (w : Window) → o.1 ≡ 0 → rest w ≡ [] → optional_part due o w ≡ Ok (None, w)
unfolding optional_part
optional_none due o w z e = rw (eq-eqb o.1 0 z, ends_takes VariablePart w e) refl

pub optional_takes : (due : Bool) (o : ℕ × ℕ) (w : Window) (found : Option ℕ) (xs : List ℕ) → (o.1 ≡ 0 → ⊥) → o.0 + o.1 ≡ w.place → IsOptional due found xs → rest w ≡ xs →
    (v : Window) × (optional_part due o w ≡ Ok (found, v))
unfolding optional_part
optional_takes due o w found xs some points is e =
    let short : length xs < suc (length w.octets) = omega (arith, ap length e, length-drop w.place w.octets) in
    let a = parameters_takes due is (suc (length w.octets)) None found w e short refl in
    (a.0, rw (ne_eqb o.1 0 some, points_takes w o points) a.1)

-- class and credit
pub agreed_front : (place class : ℕ) (found : Option ℕ) (both : ℕ × ℕ) → 2 ≤ class → class ≤ 3 → agreed place class found ≡ Ok both → (both.0 ≡ class) × HasCredit class both.1 found
unfolding agreed
agreed_front place class found both l h e = by found (eqb class 2) refl e
  where
    by : (found : Option ℕ) (b : Bool) → eqb class 2 ≡ b → agreed place class found ≡ Ok both → (both.0 ≡ class) × HasCredit class both.1 found
    by None true n e =
        let k : Ok (2, 0) ≡ Ok both = rw n at e in
        let t : both ≡ (2, 0) = cc in
        (ap (λ q. q.0) t ∙ sym (eqb-true class 2 n), inl (eqb-true class 2 n, ap (λ q. q.1) t, refl))
    by (Some x) true n e = let k = rw n at e in absurd cc
    by None false n e = let k = rw n at e in absurd cc
    by (Some x) false n e =
        let k = rw n at e in
        let t : (both ≡ (3, x)) × (1 ≤ x) × (x ≤ 127) = (grind (arith, nat_tests), grind (arith, nat_tests), grind (arith, nat_tests)) in
        let three : class ≡ 3 = omega (arith, eqb-false class 2 n) in
        (ap (λ q. q.0) t.0 ∙ sym three, inr (three, ap (λ q. Some q.1) (sym t.0), omega (arith, ap (λ q. q.1) t.0, t.1), omega (arith, ap (λ q. q.1) t.0, t.2)))

pub agreed_takes : (place class credit : ℕ) (found : Option ℕ) → HasCredit class credit found → agreed place class found ≡ Ok (class, credit)
unfolding agreed
agreed_takes place class credit found (inl (two, none, nothing)) = rw (two, none, nothing) refl
agreed_takes place class credit found (inr (three, known, low, high)) = rw (three, known, le-leb 1 credit low, le-leb credit 127 high) refl
