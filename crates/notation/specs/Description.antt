-- What is said of a message that is given as hex text.
use Rattle.std.specs.Prelude.{◌≡◌, ℕ, List, Ok, Err, string_bytes, Result, String}
use Rattle.std.specs.declared.alloc.Global.{Global}
use Rattle.reader.specs.Reading.{reading}
use Rattle.hex_text.specs.declared.text.HexFault.{HexFault}
use Rattle.hex_text.specs.declared.text.HexFault.TheVariants.{Nothing, NoDigit, LoneDigit, BehindDash, Memory}
use Rattle.notation.specs.Lines.{answer_line}

-- the line of what the octets of the text mean, or the fault of the text. Memory is not wanted for blanks alone
abbrev pub Describes : Result (String Global) HexFault → Result (List ℕ) HexFault → Type 0
Describes (Ok line) said = (octets : List ℕ) × (said ≡ Ok octets) × (string_bytes line ≡ answer_line (reading octets))
Describes (Err Nothing) said = said ≡ Err Nothing
Describes (Err (NoDigit n)) said = said ≡ Err (NoDigit n)
Describes (Err (LoneDigit n)) said = said ≡ Err (LoneDigit n)
Describes (Err (BehindDash n)) said = said ≡ Err (BehindDash n)
Describes (Err Memory) said = said ≡ Err Nothing → ⊥
