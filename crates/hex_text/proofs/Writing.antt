-- Octets are written one after another.
use Rattle.std.proofs.Common.{◌≡◌, ℕ, ◌+◌, ◌/◌, ◌%◌, ◌<◌, List, [], ◌∷◌, ◌++◌, length, get_or, take, sym, refl, ap, ◌∙◌}
use Rattle.std.proofs.lemmas.List.{take_more}
use Rattle.hex_text.specs.Capitals.{capital, capitals}

-- what is shown for one octet
abbrev pub two : ℕ → List ℕ
two octet = capital (octet / 16) ∷ capital (octet % 16) ∷ []

capitals_push : (octets : List ℕ) (octet : ℕ) → capitals (octets ++ octet ∷ []) ≡ capitals octets ++ two octet
capitals_push [] octet = refl
capitals_push (o ∷ octets) octet = ap (λ l. two o ++ l) (capitals_push octets octet)

pub capitals_more : (octets : List ℕ) (i : ℕ) → i < length octets → capitals (take i octets) ++ two (get_or octets i 0) ≡ capitals (take (i + 1) octets)
capitals_more octets i more = sym (ap capitals (take_more octets i 0 more) ∙ capitals_push (take i octets) (get_or octets i 0))
