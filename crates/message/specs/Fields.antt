-- What single fields are read as.
use Rattle.std.specs.Prelude.{◌≡◌, ℕ, ◌+◌, ◌*◌, true, false, ◌≢◌, List, Result, MatchResult, slice_index}
use Rattle.message.specs.declared.content.Reference.{Reference}
use Rattle.message.specs.declared.fault.Refusal.{Refusal}
use Rattle.message.specs.declared.fault.Refusal.TheVariants.{FieldValue}
use Rattle.message.specs.Content.{between}

-- an octet that stands for something: the values from low to high do, and `number` tells which is which
abbrev pub ReadsField : {T : Type 0} → (T → ℕ) → ℕ → ℕ → ℕ → Result T Refusal → Type 0
ReadsField number low high octet r =
    MatchResult r (λ x. (number x ≡ octet) × (between low high octet ≡ true)) (λ e. (e ≡ FieldValue) × (between low high octet ≡ false))

-- the number of three octets, the lowest first
abbrev pub reference_number : List ℕ → ℕ
reference_number octets = slice_index octets 0 + 256 * slice_index octets 1 + 65536 * slice_index octets 2

-- three octets that are a reference, which is not 0
abbrev pub ReadsReference : List ℕ → Result Reference Refusal → Type 0
ReadsReference octets r =
    MatchResult r (λ x. (x.0 ≡ reference_number octets) × (x.0 ≢ 0)) (λ e. (e ≡ FieldValue) × (reference_number octets ≡ 0))
