-- Worked examples of the layouts and of reading, in octets as they stand on the line.
use Rattle.std.specs.Prelude.{◌≡◌, ℕ, true, List, [], ◌∷◌, length, Ok, Err}
use Rattle.message.specs.declared.fault.Refusal.TheVariants.{MessageLength, OptionalPart, CreditMisfit}
use Rattle.message.specs.Content.{connection_request, connection_confirm, data_form_2}
use Rattle.reader.specs.Reading.{reading}
use Rattle.message.specs.Layout.{layout}

-- CR, source 5, class 3, subsystem 254, credit 4
abbrev pub request : List ℕ
request = 0x01 ∷ 0x05 ∷ 0x00 ∷ 0x00 ∷ 0x03 ∷ 0x02 ∷ 0x04 ∷ 0x02 ∷ 0x42 ∷ 0xFE ∷ 0x09 ∷ 0x01 ∷ 0x04 ∷ 0x00 ∷ []

-- CC to 5 from 9, class 3, credit 4
abbrev pub confirm : List ℕ
confirm = 0x02 ∷ 0x05 ∷ 0x00 ∷ 0x00 ∷ 0x09 ∷ 0x00 ∷ 0x00 ∷ 0x03 ∷ 0x01 ∷ 0x09 ∷ 0x01 ∷ 0x04 ∷ 0x00 ∷ []

-- DT2 to 7, P(S) 3, P(R) 1, more to come, AA
abbrev pub segment : List ℕ
segment = 0x07 ∷ 0x07 ∷ 0x00 ∷ 0x00 ∷ 0x06 ∷ 0x03 ∷ 0x01 ∷ 0x01 ∷ 0xAA ∷ []

-- the request without its last octet
abbrev pub request_cut : List ℕ
request_cut = 0x01 ∷ 0x05 ∷ 0x00 ∷ 0x00 ∷ 0x03 ∷ 0x02 ∷ 0x04 ∷ 0x02 ∷ 0x42 ∷ 0xFE ∷ 0x09 ∷ 0x01 ∷ 0x04 ∷ []

-- the request with credit 0
abbrev pub request_unfit : List ℕ
request_unfit = 0x01 ∷ 0x05 ∷ 0x00 ∷ 0x00 ∷ 0x03 ∷ 0x02 ∷ 0x04 ∷ 0x02 ∷ 0x42 ∷ 0xFE ∷ 0x09 ∷ 0x01 ∷ 0x00 ∷ 0x00 ∷ []

-- each is written and read so, and the damaged ones are refused: 9 at 13, 10 at 4, and any 269 octets with 4
abbrev pub WorkedExamples : Type 0
WorkedExamples =
    (layout (connection_request 5 3 4 254) ≡ request) × (reading request ≡ Ok (connection_request 5 3 4 254))
    × (layout (connection_confirm 5 9 3 4) ≡ confirm) × (reading confirm ≡ Ok (connection_confirm 5 9 3 4))
    × (layout (data_form_2 7 3 1 true (0xAA ∷ [])) ≡ segment) × (reading segment ≡ Ok (data_form_2 7 3 1 true (0xAA ∷ [])))
    × (reading request_cut ≡ Err (record { refusal = OptionalPart; place = 13 }))
    × (reading request_unfit ≡ Err (record { refusal = CreditMisfit; place = 4 }))
    × ((octets : List ℕ) → length octets ≡ 269 → reading octets ≡ Err (record { refusal = MessageLength; place = 0 }))
