-- How octets are written: two capital hex digits to an octet.
use Rattle.std.specs.Prelude.{ℕ, ◌+◌, ◌/◌, ◌%◌, cond, List, [], ◌∷◌, nat_lt}

-- the character of a digit: 0 to 9, then A to F
abbrev pub capital : ℕ → ℕ
capital d = cond (nat_lt d 10) (48 + d) (55 + d)

-- the characters of octets
abbrev pub capitals : List ℕ → List ℕ
capitals [] = []
capitals (octet ∷ octets) = capital (octet / 16) ∷ capital (octet % 16) ∷ capitals octets
