-- What the steps of reading tell where they succeed.
use Rattle.std.proofs.Common.{◌≡◌, MatchResult, ℕ, zero, suc, ◌+◌, ◌-◌, ◌<◌, ◌≤◌, Bool, cond, eqb, List, length, get_or, take, drop, Ok, Err, Option, Result, sym, refl, ap, ◌∙◌, arith}
use Rattle.std.proofs.lemmas.Bool.{ne_eqb}
use Rattle.std.proofs.lemmas.Bool.Decides.{nat_tests}
use Rattle.message.specs.declared.fault.Fault.{Fault}
use Rattle.message.specs.declared.fault.Refusal.{Refusal}
use Rattle.message.specs.declared.fault.Refusal.TheVariants.{CutShort, FieldValue, OptionalPart}
use Rattle.reader.specs.Window.{Window, then, lift, outcome}
use Rattle.message.specs.Fields.{ReadsField}
use Rattle.message.specs.Content.{between}
use Rattle.reader.specs.Reading.{Converts, octet, field, ends, counted, credit_after, parameters, any_parameters}

-- the window, so many octets further on
abbrev pub moved : Window → ℕ → Window
moved w n = record { octets = w.octets; place = w.place + n }

pub octet_gives : (missing : Refusal) (w : Window) (p : ℕ × Window) → octet missing w ≡ Ok p →
    (w.place < length w.octets) × (p ≡ (get_or w.octets w.place 0, moved w 1))
unfolding octet
octet_gives missing w p e = (grind (arith, nat_tests), grind (arith, nat_tests))

pub counted_gives : (wrong : Refusal) (place : ℕ) (w : Window) (p : List ℕ × Window) → counted wrong place w ≡ Ok p →
    (w.place < length w.octets) × (1 ≤ get_or w.octets w.place 0) × (w.place + 1 + get_or w.octets w.place 0 ≤ length w.octets)
    × (p ≡ (take (get_or w.octets w.place 0) (drop (w.place + 1) w.octets), record { octets = w.octets; place = w.place + 1 + get_or w.octets w.place 0 }))
unfolding counted
counted_gives wrong place w p e = (grind (arith, nat_tests), grind (arith, nat_tests), grind (arith, nat_tests), grind (arith, nat_tests))

-- a converted field is the field with these values
pub field_converted : {T : Type 0} (number : T → ℕ) (low high : ℕ) (r : Result T Fault) (v w : Window) → Converts (ReadsField number low high) r v w →
    outcome number r v ≡ field low high w
unfolding field
field_converted {T = T} number low high r v w h = by (octet CutShort w) h
  where
    Gives : ℕ × Window → Type 0
    Gives p = (c : Result T Refusal) × ReadsField number low high p.0 c × (v ≡ p.1) × MatchResult c (λ x. r ≡ Ok x) (λ why. r ≡ Err (record { refusal = why; place = w.place }))

    by : (o : Result (ℕ × Window) Fault) → MatchResult o Gives (λ fault. r ≡ Err fault) →
        outcome number r v ≡ then o (λ p. cond (between low high p.0) (Ok (p.0, p.1)) (Err (record { refusal = FieldValue; place = w.place })))
    by (Err fault) e = rw e refl
    by (Ok p) (Ok x, g, s, e) = rw (e, s, g.0, g.1) refl
    by (Ok p) (Err why, g, s, e) = rw (e, g.0, g.1) refl

-- two continuations that agree where the step succeeds
pub then_same : {A B : Type 0} (r : Result A Fault) (f g : A → Result B Fault) → ((a : A) → r ≡ Ok a → f a ≡ g a) → then r f ≡ then r g
then_same (Ok a) f g h = h a refl
then_same (Err fault) f g h = refl

pub lift_gives : {A : Type 0} (r : Result A Fault) (w : Window) (p : A × Window) → lift r w ≡ Ok p → p.1 ≡ w
lift_gives (Ok x) w p e = let same : p ≡ (x, w) = cc in ap (λ q. q.1) same
lift_gives (Err fault) w p e = cc

pub lift_value : {A : Type 0} (r : Result A Fault) (w : Window) (p : A × Window) → lift r w ≡ Ok p → r ≡ Ok p.0
lift_value (Ok x) w p e = let same : (x, w) ≡ p = cc in ap (λ q. Ok q.0) same
lift_value (Err fault) w p e = cc

-- a deeper look changes nothing where the depth is above the number of octets left
pub deeper : (depth : ℕ) (due : Bool) (found : Option ℕ) (w : Window) → length w.octets - w.place < depth →
    parameters depth due found w ≡ parameters (suc depth) due found w
unfolding parameters
deeper zero due found w h = absurd (omega arith)
deeper (suc depth) due found w h =
    then_same (octet OptionalPart w) _ _ (λ p e. ap (cond (eqb p.0 0) (then (ends OptionalPart p.1) (λ u. Ok (found, u.1))))
    (then_same (counted OptionalPart w.place p.1) _ _ (λ q f.
    then_same (lift (credit_after due found w.place p.0 q.0) q.1) _ _ (λ k e2.
    let a = octet_gives OptionalPart w p e in
    let b = counted_gives OptionalPart w.place p.1 q f in
    let c = lift_gives (credit_after due found w.place p.0 q.0) q.1 k e2 in
    deeper depth due k.0 k.1 (omega (arith, ap (λ x. x.place) c, ap (λ x. length x.octets) c, ap (λ x. x.1.place) a.1, ap (λ x. length x.1.octets) a.1, ap (λ x. x.1.place) b.3, ap (λ x. length x.1.octets) b.3))))))

-- one parameter, and the optional part behind it
module _ (due : Bool) (found known : Option ℕ) (w w1 w2 : Window) (name : ℕ) (part : List ℕ) (named : Ok (name, w1) ≡ octet OptionalPart w) (goes_on : name ≡ 0 → ⊥)
    (holds : Ok (part, w2) ≡ counted OptionalPart w.place w1) (after : Ok known ≡ credit_after due found w.place name part) where
  parameter_step : (depth : ℕ) → parameters (suc depth) due found w ≡ parameters depth due known w2
  unfolding parameters
  parameter_step depth = rw (← named, ne_eqb name 0 goes_on, ← holds, ← after) refl

  -- the place behind the parameter
  pub parameter_place : (w.place + 3 ≤ w2.place) × (w2.octets ≡ w.octets) × (w.place < length w.octets)
  parameter_place =
      let a = octet_gives OptionalPart w (name, w1) (sym named) in
      let b = counted_gives OptionalPart w.place w1 (part, w2) (sym holds) in
      (omega (arith, ap (λ x. x.1.place) a.1, ap (λ x. x.1.place) b.3, b.1), ap (λ x. x.1.octets) b.3 ∙ ap (λ x. x.1.octets) a.1, a.0)

  pub parameter_more : any_parameters due known w2 ≡ any_parameters due found w
  parameter_more =
      let p = parameter_place in
      ap (λ (x : List ℕ). parameters (suc (length x)) due known w2) p.1
      ∙ sym (deeper (length w.octets) due known w2 (omega (arith, p.0, ap length p.1, p.2)))
      ∙ sym (parameter_step (length w.octets))
