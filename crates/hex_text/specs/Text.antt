-- Which octets hex text stands for. Columns count from 1.
use Rattle.std.specs.Prelude.{◌≡◌, ℕ, ◌+◌, ◌*◌, ◌<◌, cond, List, [], ◌∷◌, All, Ok, Err, vec_items, Result, Vec, ◌==◌, ◌≢◌}
use Rattle.std.specs.declared.alloc.Global.{Global}
use Rattle.hex_text.specs.declared.text.HexFault.{HexFault}
use Rattle.hex_text.specs.declared.text.HexFault.TheVariants.{Nothing, NoDigit, LoneDigit, BehindDash, Memory}
use Rattle.hex_text.specs.Digits.{blank, gap, digit_at, second_at}
use Rattle.hex_text.specs.Capitals.{capitals}

-- an octet in front of the others
abbrev pub before : ℕ → Result (List ℕ) HexFault → Result (List ℕ) HexFault
before octet (Ok octets) = Ok (octet ∷ octets)
before octet (Err fault) = Err fault

-- the octet of two digits in front of the others
abbrev pub pair : Result ℕ HexFault → Result ℕ HexFault → Result (List ℕ) HexFault → Result (List ℕ) HexFault
pair (Err fault) low others = Err fault
pair (Ok high) (Err fault) others = Err fault
pair (Ok high) (Ok low) others = before (16 * high + low) others

-- the octets from column n on, with gaps between them
abbrev pub octets_from : ℕ → List ℕ → Result (List ℕ) HexFault
octets_from n [] = Ok []
octets_from n (c ∷ []) = cond (gap c) (Ok []) (pair (digit_at n c) (Err (LoneDigit n)) (Ok []))
octets_from n (c ∷ d ∷ cs) =
    cond (gap c) (octets_from (n + 1) (d ∷ cs))
    (pair (digit_at n c) (second_at n (n + 1) d) (octets_from (n + 2) cs))

-- no octets: blanks alone, from column n on
abbrev pub blanks_from : ℕ → List ℕ → Result (List ℕ) HexFault
blanks_from n [] = Ok []
blanks_from n (c ∷ cs) = cond (blank c) (blanks_from (n + 1) cs) (Err (BehindDash n))

-- a dash for no octets, or octets, behind blanks from column n on
abbrev pub text_from : ℕ → List ℕ → Result (List ℕ) HexFault
text_from n [] = Err Nothing
text_from n (c ∷ cs) =
    cond (blank c) (text_from (n + 1) cs)
    (cond (c == 45) (blanks_from (n + 1) cs)
    (cond (c == 58) (Err (NoDigit n)) (octets_from n (c ∷ cs))))

-- the octets of a text, or the fault in it
abbrev pub octets_of : List ℕ → Result (List ℕ) HexFault
octets_of text = text_from 1 text

-- want of memory comes only with octets to keep: not for a dash, and not for blanks alone
abbrev pub Keeps : Result (List ℕ) HexFault → Type 0
Keeps said = (said ≢ Ok []) × (said ≢ Err Nothing)

-- a reading gives those octets or that fault, or finds no memory for octets
abbrev pub Reads : Result (Vec ℕ Global) HexFault → Result (List ℕ) HexFault → Type 0
Reads (Ok octets) said = said ≡ Ok (vec_items octets)
Reads (Err Nothing) said = said ≡ Err Nothing
Reads (Err (NoDigit n)) said = said ≡ Err (NoDigit n)
Reads (Err (LoneDigit n)) said = said ≡ Err (LoneDigit n)
Reads (Err (BehindDash n)) said = said ≡ Err (BehindDash n)
Reads (Err Memory) said = Keeps said

-- what is shown for octets stands for these octets; for none nothing is shown, and a text of nothing is a fault
abbrev pub ShownReadsBack : Type 0
ShownReadsBack = (octet : ℕ) (octets : List ℕ) → All (λ o. o < 256) (octet ∷ octets) → octets_of (capitals (octet ∷ octets)) ≡ Ok (octet ∷ octets)
