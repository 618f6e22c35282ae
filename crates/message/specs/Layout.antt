-- How messages are laid out in octets: what a writer writes, and which octet strings are laid out as a message.
use Rattle.std.specs.Prelude.{◌≡◌, ℕ, ◌+◌, ◌*◌, ◌/◌, ◌%◌, ◌<◌, ◌≤◌, Bool, true, false, cond, ◌⊎◌, List, [], ◌∷◌, ◌++◌, length, Some, None, Option, ◌==◌, ◌≢◌}
use Rattle.message.specs.Content.{Content, connection_request, connection_confirm, connection_refused, released, release_complete, data_form_1, data_form_2, data_acknowledgement, reset_request, reset_confirm, error}

-- What is written

-- a reference: three octets, the lowest first
abbrev pub reference_octets : ℕ → List ℕ
reference_octets v = (v % 256) ∷ (v / 256 % 256) ∷ (v / 65536 % 256) ∷ []

-- M: 1 where more of the unit follows
abbrev pub more_octet : Bool → ℕ
more_octet more = cond more 1 0

-- O and what it points to: in class 3 the credit behind `distance` octets, in class 2 nothing. `between` stands between the pointer and its part
abbrev pub credit_part : ℕ → ℕ → ℕ → List ℕ → List ℕ
credit_part class credit distance between = cond (class == 3) (distance ∷ between ++ 9 ∷ 1 ∷ credit ∷ 0 ∷ []) (0 ∷ between)

-- the octets of a message
abbrev pub layout : Content → List ℕ
layout (connection_request source class credit subsystem) = 0x01 ∷ reference_octets source ++ class ∷ 2 ∷ credit_part class credit 4 (2 ∷ 0x42 ∷ subsystem ∷ [])
layout (connection_confirm destination source class credit) = 0x02 ∷ reference_octets destination ++ reference_octets source ++ class ∷ credit_part class credit 1 []
layout (connection_refused destination cause) = 0x03 ∷ reference_octets destination ++ cause ∷ 0 ∷ []
layout (released destination source cause) = 0x04 ∷ reference_octets destination ++ reference_octets source ++ cause ∷ 0 ∷ []
layout (release_complete destination source) = 0x05 ∷ reference_octets destination ++ reference_octets source
layout (data_form_1 destination more octets) = 0x06 ∷ reference_octets destination ++ more_octet more ∷ 1 ∷ length octets ∷ octets
layout (data_form_2 destination send receive more octets) = 0x07 ∷ reference_octets destination ++ (send * 2) ∷ (receive * 2 + more_octet more) ∷ 1 ∷ length octets ∷ octets
layout (data_acknowledgement destination receive credit) = 0x08 ∷ reference_octets destination ++ (receive * 2) ∷ credit ∷ []
layout (reset_request destination source cause) = 0x0D ∷ reference_octets destination ++ reference_octets source ++ cause ∷ []
layout (reset_confirm destination source) = 0x0E ∷ reference_octets destination ++ reference_octets source
layout (error destination cause) = 0x0F ∷ reference_octets destination ++ cause ∷ []

-- Which octet strings are laid out as a message

-- three octets, the lowest first, and not 0
abbrev pub IsReference : ℕ → List ℕ → Type 0
IsReference v octets = (low middle high : ℕ) × (octets ≡ low ∷ middle ∷ high ∷ []) × (v ≡ low + 256 * middle + 65536 * high) × (0 < v)

-- an optional part is the octet 00, or a parameter followed by an optional part. A parameter is a name other than 00, a length of at least 1, and contents.
-- Where a credit is due, name 09 is the credit, of length 1 and only once; all other names are stepped over. The credit, if any, stands in front of the octets
pub data IsOptional (due : Bool) : Option ℕ → List ℕ → Type 0 where
  ended : IsOptional due None (0 ∷ [])
  with_credit : {x : ℕ} {rest : List ℕ} → due ≡ true → IsOptional due None rest → IsOptional due (Some x) (9 ∷ 1 ∷ x ∷ rest)
  with_other : {found : Option ℕ} {name : ℕ} (contents : List ℕ) {rest : List ℕ} → (name ≢ 0) → (due ≡ true → name ≢ 9) → 1 ≤ length contents →
      IsOptional due found rest → IsOptional due found (name ∷ length contents ∷ contents ++ rest)

-- the pointer O and all that follows it: O is 00 and no optional part follows, or O counts the octets from itself to the optional part, which ends the message.
-- What stands between O and that part is `between`
abbrev pub Points : Bool → List ℕ → Option ℕ → List ℕ → Type 0
Points due between found octets =
    ((octets ≡ 0 ∷ between) × (found ≡ None)) ⊎ ((rest : List ℕ) × (octets ≡ (1 + length between) ∷ between ++ rest) × IsOptional due found rest)

-- class 2 has no credit, which counts as 0; class 3 has one of 1 to 127
abbrev pub HasCredit : ℕ → ℕ → Option ℕ → Type 0
HasCredit class credit found =
    ((class ≡ 2) × (credit ≡ 0) × (found ≡ None)) ⊎ ((class ≡ 3) × (found ≡ Some credit) × (1 ≤ credit) × (credit ≤ 127))

-- a message by its layout: the type, the fixed fields, the pointers, the variable part straight behind them, and the optional part.
-- V counts the octets from itself to the variable part: 2 where O stands between, otherwise 1
abbrev pub LaidOut : Content → List ℕ → Type 0
LaidOut (connection_request source class credit subsystem) octets =
    (s rest : List ℕ) × (found : Option ℕ) × (octets ≡ 0x01 ∷ s ++ class ∷ 2 ∷ rest) × IsReference source s
    × Points true (2 ∷ 0x42 ∷ subsystem ∷ []) found rest × (1 ≤ subsystem) × HasCredit class credit found
LaidOut (connection_confirm destination source class credit) octets =
    (d s rest : List ℕ) × (found : Option ℕ) × (octets ≡ 0x02 ∷ d ++ (s ++ class ∷ rest)) × IsReference destination d × IsReference source s
    × Points true [] found rest × HasCredit class credit found
LaidOut (connection_refused destination cause) octets =
    (d rest : List ℕ) × (found : Option ℕ) × (octets ≡ 0x03 ∷ d ++ cause ∷ rest) × IsReference destination d × (cause ≤ 15) × Points false [] found rest
LaidOut (released destination source cause) octets =
    (d s rest : List ℕ) × (found : Option ℕ) × (octets ≡ 0x04 ∷ d ++ (s ++ cause ∷ rest)) × IsReference destination d × IsReference source s
    × (cause ≤ 15) × Points false [] found rest
LaidOut (release_complete destination source) octets =
    (d s : List ℕ) × (octets ≡ 0x05 ∷ d ++ s) × IsReference destination d × IsReference source s
LaidOut (data_form_1 destination more segment) octets =
    (d : List ℕ) × (octets ≡ 0x06 ∷ d ++ more_octet more ∷ 1 ∷ length segment ∷ segment) × IsReference destination d × (1 ≤ length segment)
LaidOut (data_form_2 destination send receive more segment) octets =
    (d : List ℕ) × (octets ≡ 0x07 ∷ d ++ (send * 2) ∷ (receive * 2 + more_octet more) ∷ 1 ∷ length segment ∷ segment) × IsReference destination d × (1 ≤ length segment)
LaidOut (data_acknowledgement destination receive credit) octets =
    (d : List ℕ) × (octets ≡ 0x08 ∷ d ++ (receive * 2) ∷ credit ∷ []) × IsReference destination d × (1 ≤ credit) × (credit ≤ 127)
LaidOut (reset_request destination source cause) octets =
    (d s : List ℕ) × (octets ≡ 0x0D ∷ d ++ (s ++ cause ∷ [])) × IsReference destination d × IsReference source s × (cause ≤ 15)
LaidOut (reset_confirm destination source) octets =
    (d s : List ℕ) × (octets ≡ 0x0E ∷ d ++ s) × IsReference destination d × IsReference source s
LaidOut (error destination cause) octets =
    (d : List ℕ) × (octets ≡ 0x0F ∷ d ++ cause ∷ []) × IsReference destination d × (cause ≤ 4)

-- an octet string is a message with this content: it is laid out so, and has at most 268 octets
abbrev pub IsMessage : Content → List ℕ → Type 0
IsMessage c octets = (length octets ≤ 268) × LaidOut c octets
