-- The characters of hex text, by their codes, and the columns that they stand in.
use Rattle.std.specs.Prelude.{ℕ, ◌-◌, Bool, cond, ◌&&◌, ◌||◌, Ok, Err, Result, ◌==◌, nat_le}
use Rattle.hex_text.specs.declared.text.HexFault.{HexFault}
use Rattle.hex_text.specs.declared.text.HexFault.TheVariants.{NoDigit, LoneDigit}

-- a space, a tab or a carriage return
abbrev pub blank : ℕ → Bool
blank c = c == 32 || (c == 9 || c == 13)

-- what may stand behind an octet: a blank or a colon
abbrev pub gap : ℕ → Bool
gap c = blank c || c == 58

-- the digit c in column n: 0 to 9, A to F or a to f
abbrev pub digit_at : ℕ → ℕ → Result ℕ HexFault
digit_at n c =
    cond (nat_le 48 c && nat_le c 57) (Ok (c - 48))
    (cond (nat_le 65 c && nat_le c 70) (Ok (c - 55))
    (cond (nat_le 97 c && nat_le c 102) (Ok (c - 87)) (Err (NoDigit n))))

-- the second digit c of an octet, in column n, where the first stands in column m
abbrev pub second_at : ℕ → ℕ → ℕ → Result ℕ HexFault
second_at m n c = cond (gap c) (Err (LoneDigit m)) (digit_at n c)
