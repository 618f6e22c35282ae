-- Reading, step by step: a step looks at the octets from the place reached, and gives a value and moves on, or a fault.
use Rattle.std.specs.Prelude.{ℕ, Bool, cond, List, Ok, Err, Result}
use Rattle.message.specs.declared.fault.Fault.{Fault}
use Rattle.message.specs.declared.fault.Refusal.{Refusal}

-- all octets of a message, and the place reached in them
pub record Window : Type 0 where
  pub octets : List ℕ
  pub place : ℕ

-- a reading step
abbrev pub Read : Type 0 → Type 0
Read A = Window → Result (A × Window) Fault

-- the first fault counts
abbrev pub then : {A B : Type 0} → Result A Fault → (A → Result B Fault) → Result B Fault
then (Ok a) next = next a
then (Err fault) next = Err fault

-- a step, and then one that may depend on its value
abbrev pub ◌>>=◌ : {A B : Type 0} → Read A → (A → Read B) → Read B
◌>>=◌ step next w = then (step w) (λ p. next p.0 p.1)

-- a step, and then another
abbrev pub ◌>>◌ : {A B : Type 0} → Read A → Read B → Read B
◌>>◌ step next w = then (step w) (λ p. next p.1)

-- one of two steps, by a test
abbrev pub choose : {A : Type 0} → Bool → Read A → Read A → Read A
choose test one other w = cond test (one w) (other w)

-- a value, without a look at the octets
abbrev pub give : {A : Type 0} → A → Read A
give x w = Ok (x, w)

-- a refusal at a place
abbrev pub refuse : {A : Type 0} → Refusal → ℕ → Read A
refuse why place w = Err (record { refusal = why; place = place })

-- a result that needs no look at the octets
abbrev pub lift : {A : Type 0} → Result A Fault → Read A
lift result w = then result (λ x. Ok (x, w))

-- the place reached
abbrev pub here : Read ℕ
here w = Ok (w.place, w)

-- what a method of the reader answered, and where it left the reader: `of` says what its value stands for
abbrev pub outcome : {X A : Type 0} → (X → A) → Result X Fault → Window → Result (A × Window) Fault
outcome of (Ok x) w = Ok (of x, w)
outcome of (Err fault) w = Err fault

-- a value that says nothing
abbrev pub nothing : Unit {0} → Unit {0}
nothing x = tt
