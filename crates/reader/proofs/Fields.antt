-- Each reading step against the octets that it takes: what it gives stands in front of what is left, and where that stands there it is given.
use Rattle.std.proofs.Common.{◌≡◌, ℕ, suc, ◌+◌, ◌-◌, ◌*◌, ◌/◌, ◌%◌, ◌<◌, ◌≤◌, true, false, eqb, List, [], ◌∷◌, ◌++◌, length, get_or, take, drop, Ok, Err, Result, sym, refl, ap, ◌∙◌, arith, lit≤}
use Rattle.std.proofs.lemmas.List.{drop_more, drop-drop, drop_all, drop_at, length-append, length-drop, length-take-le, take-append-drop, take_at}
use Rattle.std.proofs.lemmas.Bool.{eq-eqb, ne_eqb, le-leb}
use Rattle.std.proofs.lemmas.Bool.Decides.{nat_tests}
use Rattle.message.specs.declared.fault.Fault.{Fault}
use Rattle.message.specs.declared.fault.Refusal.{Refusal}
use Rattle.message.specs.declared.fault.Refusal.TheVariants.{CutShort, VariablePart}
use Rattle.reader.specs.Window.{Window, then}
use Rattle.reader.specs.Reading.{octet, ends, counted, reference, field, sequence_number, pointer, points_here, variable, called_address}
use Rattle.message.specs.Layout.{IsReference}
use Rattle.reader.proofs.Steps.{moved, octet_gives, counted_gives}

-- the octets from the place reached
abbrev pub rest : Window → List ℕ
rest w = drop w.place w.octets

-- a chain of steps that succeeds, step by step
pub first : {A B : Type 0} (r : Result A Fault) (next : A → Result B Fault) (b : B) → then r next ≡ Ok b → (a : A) × (r ≡ Ok a) × (next a ≡ Ok b)
first (Ok a) next b e = (a, refl, e)
first (Err fault) next b e = absurd cc

-- a list of two
two : (xs : List ℕ) → length xs ≡ 2 → xs ≡ get_or xs 0 0 ∷ get_or xs 1 0 ∷ []
two [] e = absurd (omega arith)
two (x ∷ []) e = absurd (omega arith)
two (x ∷ y ∷ []) e = refl
two (x ∷ y ∷ z ∷ xs) e = absurd (omega arith)

-- the window behind so many octets
abbrev pub Past : Window → ℕ → Window → Type 0
Past w n v = (v.octets ≡ w.octets) × (v.place ≡ w.place + n)

-- two moves on are one
pub further : (a b c m n : ℕ) → b ≡ a + m → c ≡ b + n → a + (m + n) ≡ c
further a b c m n e f = omega arith

-- a step takes these octets in front of what is left, and gives this value
abbrev pub Takes : {A : Type 0} → Result (A × Window) Fault → A → Window → List ℕ → ℕ → Type 0
Takes result x w left n = (v : Window) × (result ≡ Ok (x, v)) × (rest v ≡ left) × Past w n v

module _ (missing : Refusal) (w : Window) where
  pub octet_front : (p : ℕ × Window) → octet missing w ≡ Ok p → (rest w ≡ p.0 ∷ rest p.1) × Past w 1 p.1
  octet_front p e =
      let g = octet_gives missing w p e in
      (drop_more w.octets w.place 0 g.0 ∙ rw g.1 refl, (ap (λ q. q.1.octets) g.1, ap (λ q. q.1.place) g.1))

  pub octet_takes : (x : ℕ) (left : List ℕ) → rest w ≡ x ∷ left → Takes (octet missing w) x w left 1
  unfolding octet
  octet_takes x left e =
      let below : w.place < length w.octets = omega (arith, ap length e, length-drop w.place w.octets) in
      let more : drop w.place w.octets ≡ get_or w.octets w.place 0 ∷ drop (w.place + 1) w.octets = drop_more w.octets w.place 0 below in
      let here : get_or w.octets w.place 0 ≡ x = cc in
      (moved w 1, grind (arith, nat_tests), cc, (refl, refl))

  pub ends_front : (p : Unit {0} × Window) → ends missing w ≡ Ok p → (rest w ≡ []) × (p.1 ≡ w)
  unfolding ends
  ends_front p e =
      let past : length w.octets ≤ w.place = grind (arith, nat_tests) in
      (drop_all w.place w.octets past, grind (arith, nat_tests))

  pub ends_takes : rest w ≡ [] → ends missing w ≡ Ok (tt, w)
  unfolding ends
  ends_takes e =
      let past : length w.octets ≤ w.place = omega (arith, ap length e, length-drop w.place w.octets) in
      grind (arith, nat_tests)

  pub counted_front : (place : ℕ) (p : List ℕ × Window) → counted missing place w ≡ Ok p →
      (rest w ≡ length p.0 ∷ p.0 ++ rest p.1) × (1 ≤ length p.0) × Past w (1 + length p.0) p.1
  counted_front place p e =
      let g = counted_gives missing place w p e in
      let n = get_or w.octets w.place 0 in
      let size : length p.0 ≡ n = ap (λ q. length q.0) g.3 ∙ length-take-le n (drop (w.place + 1) w.octets) (omega (arith, length-drop (w.place + 1) w.octets, g.2)) in
      let more = drop_more w.octets w.place 0 g.0 in
      let part : drop (w.place + 1) w.octets ≡ p.0 ++ rest p.1 =
      sym (take-append-drop n (drop (w.place + 1) w.octets)) ∙ rw g.3 (ap (λ x. take n (drop (w.place + 1) w.octets) ++ x) (drop-drop n (w.place + 1) w.octets)) in
      (rw (more, ← part, size) refl, omega (arith, g.1, size), (ap (λ q. q.1.octets) g.3, omega (arith, ap (λ q. q.1.place) g.3, size)))

  pub counted_takes : (place : ℕ) (part left : List ℕ) → 1 ≤ length part → rest w ≡ length part ∷ part ++ left → Takes (counted missing place w) part w left (1 + length part)
  unfolding counted
  counted_takes place part left some e =
      let total : length w.octets - w.place ≡ 1 + (length part + length left) =
      sym (length-drop w.place w.octets) ∙ ap length e ∙ ap suc (length-append part left) ∙ omega arith in
      let below : w.place < length w.octets = omega arith in
      let more : drop w.place w.octets ≡ get_or w.octets w.place 0 ∷ drop (w.place + 1) w.octets = drop_more w.octets w.place 0 below in
      let size : get_or w.octets w.place 0 ≡ length part = cc in
      let behind : drop (w.place + 1) w.octets ≡ part ++ left = cc in
      let fits : w.place + 1 + get_or w.octets w.place 0 ≤ length w.octets = omega arith in
      let taken : take (get_or w.octets w.place 0) (drop (w.place + 1) w.octets) ≡ part = rw (behind, size) (take_at part left (length part) refl) in
      let left_is : drop (w.place + 1 + get_or w.octets w.place 0) w.octets ≡ left =
      rw (size, ← drop-drop (length part) (w.place + 1) w.octets, behind) (drop_at part left (length part) refl) in
      (record { octets = w.octets; place = w.place + 1 + get_or w.octets w.place 0 }, grind (arith, nat_tests), left_is, (refl, omega arith))

module _ (w : Window) where
  pub reference_front : (p : ℕ × Window) → reference w ≡ Ok p → (s : List ℕ) × (rest w ≡ s ++ rest p.1) × IsReference p.0 s × Past w 3 p.1
  unfolding reference
  reference_front p e =
      let a = first (octet CutShort w) _ p e in
      let b = first (octet CutShort a.0.1) _ p a.2 in
      let c = first (octet CutShort b.0.1) _ p b.2 in
      let fa = octet_front CutShort w a.0 a.1 in
      let fb = octet_front CutShort a.0.1 b.0 b.1 in
      let fc = octet_front CutShort b.0.1 c.0 c.1 in
      let v = a.0.0 + 256 * b.0.0 + 65536 * c.0.0 in
      let ok : (p ≡ (v, c.0.1)) × (0 < v) = (let h = c.2 in grind (arith, nat_tests), let h = c.2 in grind (arith, nat_tests)) in
      let value : p.0 ≡ v = ap (λ q. q.0) ok.0 in (
        a.0.0 ∷ b.0.0 ∷ c.0.0 ∷ [],
        rw (fa.0, fb.0, fc.0) (ap (λ q. a.0.0 ∷ b.0.0 ∷ c.0.0 ∷ rest q.1) (sym ok.0)),
        (a.0.0, b.0.0, c.0.0, refl, value, omega (arith, value, ok.1)),
        (ap (λ q. q.1.octets) ok.0 ∙ fc.1.0 ∙ fb.1.0 ∙ fa.1.0, omega (arith, ap (λ q. q.1.place) ok.0, fc.1.1, fb.1.1, fa.1.1)),
      )

  pub reference_takes : (v : ℕ) (s left : List ℕ) → IsReference v s → rest w ≡ s ++ left → Takes (reference w) v w left 3
  unfolding reference
  reference_takes v s left (low, middle, high, is, value, above) e =
      let f : rest w ≡ low ∷ middle ∷ high ∷ left = rw is at e in
      let a = octet_takes CutShort w low (middle ∷ high ∷ left) f in
      let b = octet_takes CutShort a.0 middle (high ∷ left) a.2 in
      let c = octet_takes CutShort b.0 high left b.2 in
      let nonzero : eqb (low + 256 * middle + 65536 * high) 0 ≡ false = ne_eqb _ _ (λ z. omega arith) in
      (c.0, rw (a.1, b.1, c.1, nonzero, value) refl, c.2, (c.3.0 ∙ b.3.0 ∙ a.3.0, omega (arith, c.3.1, b.3.1, a.3.1)))

  pub field_front : (low high : ℕ) (p : ℕ × Window) → field low high w ≡ Ok p → (rest w ≡ p.0 ∷ rest p.1) × (low ≤ p.0) × (p.0 ≤ high) × Past w 1 p.1
  unfolding field
  field_front low high p e =
      let a = first (octet CutShort w) _ p e in
      let f = octet_front CutShort w a.0 a.1 in
      let ok : (p ≡ a.0) × (low ≤ a.0.0) × (a.0.0 ≤ high) = (let h = a.2 in grind (arith, nat_tests), let h = a.2 in grind (arith, nat_tests), let h = a.2 in grind (arith, nat_tests)) in
      rw ok.0 (f.0, ok.1, ok.2, f.1)

  pub field_takes : (low high x : ℕ) (left : List ℕ) → low ≤ x → x ≤ high → rest w ≡ x ∷ left → Takes (field low high w) x w left 1
  unfolding field
  field_takes low high x left l h e =
      let a = octet_takes CutShort w x left e in
      (a.0, rw (a.1, le-leb low x l, le-leb x high h) refl, a.2, a.3)

  pub sequence_front : (p : ℕ × Window) → sequence_number w ≡ Ok p → (rest w ≡ (p.0 * 2) ∷ rest p.1) × Past w 1 p.1
  unfolding sequence_number
  sequence_front p e =
      let a = first (octet CutShort w) _ p e in
      let f = octet_front CutShort w a.0 a.1 in
      let ok : (p ≡ (a.0.0 / 2, a.0.1)) × (a.0.0 % 2 ≡ 0) = (let h = a.2 in grind (arith, nat_tests), let h = a.2 in grind (arith, nat_tests)) in
      let twice : a.0.0 / 2 * 2 ≡ a.0.0 = omega (arith, ok.1) in
      rw (ok.0, twice) f

  pub sequence_takes : (x : ℕ) (left : List ℕ) → rest w ≡ (x * 2) ∷ left → Takes (sequence_number w) x w left 1
  unfolding sequence_number
  sequence_takes x left e =
      let a = octet_takes CutShort w (x * 2) left e in
      let even : eqb (x * 2 % 2) 0 ≡ true = eq-eqb _ _ (omega arith) in
      let half : x * 2 / 2 ≡ x = omega arith in
      (a.0, rw (a.1, even, half) refl, a.2, a.3)

  pub pointer_front : (p : (ℕ × ℕ) × Window) → pointer w ≡ Ok p → (rest w ≡ p.0.1 ∷ rest p.1) × (p.0.0 ≡ w.place) × Past w 1 p.1
  unfolding pointer
  pointer_front p e =
      let a = first (octet CutShort w) _ p e in
      let f = octet_front CutShort w a.0 a.1 in
      let ok : p ≡ ((w.place, a.0.0), a.0.1) = let h = a.2 in cc in
      rw ok (f.0, refl, f.1)

  pub pointer_takes : (x : ℕ) (left : List ℕ) → rest w ≡ x ∷ left → Takes (pointer w) (w.place, x) w left 1
  unfolding pointer
  pointer_takes x left e = let a = octet_takes CutShort w x left e in (a.0, rw a.1 refl, a.2, a.3)

  pub points_front : (o : ℕ × ℕ) (p : Unit {0} × Window) → points_here o w ≡ Ok p → (p.1 ≡ w) × (o.0 + o.1 ≡ w.place)
  unfolding points_here
  points_front o p e = (grind (arith, nat_tests), grind (arith, nat_tests))

  pub points_takes : (o : ℕ × ℕ) → o.0 + o.1 ≡ w.place → points_here o w ≡ Ok (tt, w)
  unfolding points_here
  points_takes o e = rw (eq-eqb (o.0 + o.1) w.place e) refl

  pub address_front : (p : ℕ × Window) → called_address w ≡ Ok p → (rest w ≡ 2 ∷ 66 ∷ p.0 ∷ rest p.1) × (1 ≤ p.0) × Past w 3 p.1
  unfolding called_address variable
  address_front p e =
      let a = first (counted VariablePart w.place w) _ p e in
      let f = counted_front VariablePart w w.place a.0 a.1 in
      let part = a.0.0 in
      let ok : (p ≡ (get_or part 1 0, a.0.1)) × (length part ≡ 2) × (get_or part 0 0 ≡ 66) × (1 ≤ get_or part 1 0) =
      (let h = a.2 in grind (arith, nat_tests), let h = a.2 in grind (arith, nat_tests), let h = a.2 in grind (arith, nat_tests), let h = a.2 in grind (arith, nat_tests)) in
      let is : part ≡ 66 ∷ get_or part 1 0 ∷ [] = two part ok.1 ∙ ap (λ x. x ∷ get_or part 1 0 ∷ []) ok.2 in
      let front : rest w ≡ 2 ∷ 66 ∷ get_or part 1 0 ∷ rest a.0.1 = f.0 ∙ rw ok.1 (ap (λ x. 2 ∷ x ++ rest a.0.1) is) in
      rw ok.0 (front, ok.3, (f.2.0, omega (arith, f.2.1, ok.1)))

  pub address_takes : (x : ℕ) (left : List ℕ) → 1 ≤ x → rest w ≡ 2 ∷ 66 ∷ x ∷ left → Takes (called_address w) x w left 3
  unfolding called_address variable
  address_takes x left some e =
      let a = counted_takes VariablePart w w.place (66 ∷ x ∷ []) left (lit≤ tt) e in
      (a.0, rw (a.1, le-leb 1 x some) refl, a.2, a.3)
