-- What is shown for octets reads back.
use Rattle.std.proofs.Common.{◌≡◌, ℕ, ◌+◌, ◌*◌, ◌/◌, ◌%◌, ◌<◌, false, eqb, List, [], ◌∷◌, Ok, refl, ◌∙◌, arith}
use Rattle.std.specs.List.{All}
use Rattle.std.proofs.lemmas.List.Elements.{All-head, All-tail}
use Rattle.std.proofs.lemmas.Bool.Decides.{nat_tests}
use Rattle.hex_text.specs.Digits.{gap, digit_at}
use Rattle.hex_text.specs.Capitals.{capital, capitals}
use Rattle.hex_text.specs.Text.{octets_from, octets_of, ShownReadsBack}

-- a digit that is shown is read as itself, and is nothing else
digit_read : (n d : ℕ) → d < 16 → digit_at n (capital d) ≡ Ok d
digit_read n d small = grind (arith, nat_tests)

not_gap : (d : ℕ) → d < 16 → gap (capital d) ≡ false
not_gap d small = grind (arith, nat_tests)

not_dash : (d : ℕ) → d < 16 → eqb (capital d) 45 ≡ false
not_dash d small = grind (arith, nat_tests)

from_shown : (n : ℕ) (octets : List ℕ) → All (λ o. o < 256) octets → octets_from n (capitals octets) ≡ Ok octets
from_shown n [] small = refl
from_shown n (octet ∷ octets) small =
    let one : octet < 256 = All-head (λ o. o < 256) octet octets small in
    let high : octet / 16 < 16 = omega arith in
    let low : octet % 16 < 16 = omega arith in
    let value : 16 * (octet / 16) + octet % 16 ≡ octet = omega arith in
    let others = from_shown (n + 2) octets (All-tail (λ o. o < 256) octet octets small) in
    simp (not_gap, digit_read, others, value)

-- a text whose first character is no blank, dash or colon begins with an octet
begins : (c : ℕ) (cs : List ℕ) → gap c ≡ false → eqb c 45 ≡ false → octets_of (c ∷ cs) ≡ octets_from 1 (c ∷ cs)
begins c cs no_gap no_dash = grind (arith, nat_tests)

pub shown_reads_back : ShownReadsBack
shown_reads_back octet octets small =
    let one : octet < 256 = All-head (λ o. o < 256) octet octets small in
    let high : octet / 16 < 16 = omega arith in
    begins _ (capital (octet % 16) ∷ capitals octets) (not_gap _ high) (not_dash _ high) ∙ from_shown 1 (octet ∷ octets) small
