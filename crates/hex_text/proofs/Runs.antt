-- The stages read what the text says.
use Rattle.std.proofs.Common.{◌≡◌, ℕ, ◌+◌, ◌<◌, Bool, true, false, cond, eqb, List, [], ◌∷◌, ◌++◌, length, get_or, drop, Ok, Err, Result, sym, refl, ap, ◌∙◌, subst, append_assoc, length-append, arith}
use Rattle.std.proofs.lemmas.List.{at_drop_more}
use Rattle.std.proofs.lemmas.Bool.{cond_both, eqb-true, or_from}
use Rattle.std.proofs.lemmas.Bool.Decides.{nat_tests}
use Rattle.hex_text.specs.declared.text.HexFault.{HexFault}
use Rattle.hex_text.specs.declared.text.HexFault.TheVariants.{Nothing, NoDigit, LoneDigit, BehindDash, Memory}
use Rattle.hex_text.specs.declared.stage.Stage.{Stage}
use Rattle.hex_text.specs.declared.stage.Stage.TheVariants.{Start, Dash, Half, Octet, Gap}
use Rattle.hex_text.specs.Digits.{blank, gap, digit_at, second_at}
use Rattle.hex_text.specs.Stages.{next_stage, half, whole}
use Rattle.hex_text.specs.Text.{before, pair, octets_from, blanks_from, text_from, octets_of, Keeps, Reads}

abbrev pub Said : Type 0
Said = Result (List ℕ) HexFault

-- octets in front of what is said
abbrev pub onto : List ℕ → Said → Said
onto octets (Ok others) = Ok (octets ++ others)
onto octets (Err fault) = Err fault

-- what a text says behind a stage, from column n on
abbrev pub behind : Stage → ℕ → List ℕ → Said
behind Start n cs = text_from n cs
behind Dash n cs = blanks_from n cs
behind (Half high m) n [] = Err (LoneDigit m)
behind (Half high m) n (c ∷ cs) = pair (Ok high) (second_at m n c) (octets_from (n + 1) cs)
behind (Octet octet) n cs = octets_from n cs
behind Gap n cs = octets_from n cs

-- the same with the octet that ends at the stage, or the fault that came in place of one
abbrev pub from : Result Stage HexFault → ℕ → List ℕ → Said
from (Ok (Octet octet)) n cs = before octet (octets_from n cs)
from (Ok stage) n cs = behind stage n cs
from (Err fault) n cs = Err fault

-- a choice goes on to the stages
from_cond : (b : Bool) {x y : Said} (r s : Result Stage HexFault) (n : ℕ) (cs : List ℕ) → x ≡ from r n cs → (b ≡ false → y ≡ from s n cs) → cond b x y ≡ from (cond b r s) n cs
from_cond true r s n cs p q = p
from_cond false r s n cs p q = q refl

-- a first digit at the end of the text, or before the character d; and a second digit
lone : (n : ℕ) (high : Result ℕ HexFault) → pair high (Err (LoneDigit n)) (Ok []) ≡ from (half n high) (n + 1) []
lone n (Ok high) = refl
lone n (Err fault) = refl

first : (n d : ℕ) (cs : List ℕ) (high : Result ℕ HexFault) → pair high (second_at n (n + 1) d) (octets_from (n + 2) cs) ≡ from (half n high) (n + 1) (d ∷ cs)
first n d cs (Ok high) = let two : n + 2 ≡ n + 1 + 1 = omega arith in rw two
first n d cs (Err fault) = refl

second : (high n : ℕ) (cs : List ℕ) (low : Result ℕ HexFault) → pair (Ok high) low (octets_from n cs) ≡ from (whole high low) n cs
second high n cs (Ok low) = refl
second high n cs (Err fault) = refl

gap_step : (n c : ℕ) (cs : List ℕ) → octets_from n (c ∷ cs) ≡ from (next_stage Gap c n) (n + 1) cs
gap_step n c [] = from_cond (gap c) _ _ _ _ refl (λ _. lone n (digit_at n c))
gap_step n c (d ∷ cs) = from_cond (gap c) _ _ _ _ refl (λ _. first n d cs (digit_at n c))

-- one character
step : (stage : Stage) (n c : ℕ) (cs : List ℕ) → behind stage n (c ∷ cs) ≡ from (next_stage stage c n) (n + 1) cs
step Start n c cs =
    from_cond (blank c) _ _ _ _ refl (λ unblank. from_cond (eqb c 45) _ _ _ _ refl (λ _.
    cond_both (eqb c 58) _ _ (λ x. x ≡ from (half n (digit_at n c)) (n + 1) cs)
    (λ colon. ap (λ x. from (half n (digit_at n x)) (n + 1) cs) (sym (eqb-true c 58 colon)))
    (λ other. gap_step n c cs ∙ ap (λ b. from (cond b (Ok Gap) (half n (digit_at n c))) (n + 1) cs) (or_from (blank c) (eqb c 58) unblank other))))
step Dash n c cs = from_cond (blank c) _ _ _ _ refl (λ _. refl)
step (Half high m) n c cs = second high (n + 1) cs (second_at m n c)
step (Octet octet) n c cs = gap_step n c cs
step Gap n c cs = gap_step n c cs

-- it is not said that nothing but blanks is there, which is a fault of a whole text only
abbrev pub NotBlank : {X : Type 0} → Result X HexFault → Type 0
NotBlank said = said ≡ Err Nothing → ⊥

digit_not_blank : (n c : ℕ) → NotBlank (digit_at n c)
digit_not_blank n c e = grind (arith, nat_tests)

pair_not_blank : (high low : Result ℕ HexFault) (others : Said) → NotBlank high → NotBlank low → NotBlank others → NotBlank (pair high low others)
pair_not_blank (Err fault) low others f g h e = f (cc)
pair_not_blank (Ok high) (Err fault) others f g h e = g (cc)
pair_not_blank (Ok high) (Ok low) (Err fault) f g h e = h e
pair_not_blank (Ok high) (Ok low) (Ok octets) f g h e = cc

octets_not_blank : (n : ℕ) (cs : List ℕ) → NotBlank (octets_from n cs)
octets_not_blank n [] = λ e. cc
octets_not_blank n (c ∷ []) =
    cond_both (gap c) _ _ NotBlank (λ _ e. cc) (λ _. pair_not_blank (digit_at n c) _ _ (digit_not_blank n c) (λ e. cc) (λ e. cc))
octets_not_blank n (c ∷ d ∷ cs) =
    let second = cond_both (gap d) (Err (LoneDigit n)) (digit_at (n + 1) d) NotBlank (λ _ e. cc) (λ _. digit_not_blank (n + 1) d) in
    cond_both (gap c) _ _ NotBlank (λ _. octets_not_blank (n + 1) (d ∷ cs)) (λ _. pair_not_blank (digit_at n c) _ _ (digit_not_blank n c) second (octets_not_blank (n + 2) cs))

-- memory is wanted for an octet
onto_keeps : (front : List ℕ) (octet : ℕ) (said : Said) → NotBlank said → Keeps (onto front (before octet said))
onto_keeps front octet (Ok others) written =
    (λ e. let none : front ++ (octet ∷ others) ≡ [] = cc in omega (arith, ap length none, length-append front (octet ∷ others)), λ e. cc)
onto_keeps front octet (Err fault) written = (λ e. cc, written)

onto_push : (front : List ℕ) (octet : ℕ) (said : Said) → onto (front ++ octet ∷ []) said ≡ onto front (before octet said)
onto_push front octet (Ok others) = ap (λ l. Ok l) (append_assoc front (octet ∷ []) others)
onto_push front octet (Err fault) = refl

-- no octet ends at any other stage
from_other : (stage : Stage) (n : ℕ) (cs : List ℕ) → ((octet : ℕ) → stage ≡ Octet octet → ⊥) → behind stage n cs ≡ from (Ok stage) n cs
from_other (Octet octet) n cs other = absurd (other octet refl)
from_other stage n cs other = refl

-- a fault that the text has
refuses : (fault : HexFault) (text : List ℕ) → Err fault ≡ octets_of text → Reads (Err fault) (octets_of text)
refuses Nothing text is = sym is
refuses (NoDigit n) text is = sym is
refuses (LoneDigit n) text is = sym is
refuses (BehindDash n) text is = sym is
refuses Memory text is = (λ e. cc, λ e. cc)

-- the octets so far, and what is read of the rest from a stage on, are what the whole text says
pub record Sofar (text octets : List ℕ) (i : ℕ) (stage : Stage) : Type 0 where
  pub said : onto octets (behind stage (i + 1) (drop i text)) ≡ octets_of text

module _ {text front : List ℕ} {i : ℕ} {stage : Stage} (sofar : Sofar text front i stage) {bytes : List ℕ} (same : bytes ≡ text) (more : i < length text) where
  turn : (next : Result Stage HexFault) → next ≡ next_stage stage (get_or bytes i 0) (i + 1) → onto front (from next (i + 1 + 1) (drop (i + 1) text)) ≡ octets_of text
  turn next is =
      let read = is ∙ ap (λ t. next_stage stage (get_or t i 0) (i + 1)) same in
      let stepped = at_drop_more (behind stage (i + 1)) text i 0 more ∙ step stage (i + 1) (get_or text i 0) (drop (i + 1) text) in
      ap (onto front) (ap (λ r. from r (i + 1 + 1) (drop (i + 1) text)) read ∙ sym stepped) ∙ sofar.said

  pub goes_on : (next : Stage) → ((octet : ℕ) → next ≡ Octet octet → ⊥) → Ok next ≡ next_stage stage (get_or bytes i 0) (i + 1) → Sofar text front (i + 1) next
  goes_on next other is = record { said = ap (onto front) (from_other next _ _ other) ∙ turn (Ok next) is }

  pub pushes : (octet : ℕ) → Ok (Octet octet) ≡ next_stage stage (get_or bytes i 0) (i + 1) → Sofar text (front ++ octet ∷ []) (i + 1) (Octet octet)
  pushes octet is = record { said = onto_push front octet _ ∙ turn (Ok (Octet octet)) is }

  pub keeps : (octet : ℕ) → Ok (Octet octet) ≡ next_stage stage (get_or bytes i 0) (i + 1) → Reads (Err Memory) (octets_of text)
  keeps octet is = subst Keeps (turn (Ok (Octet octet)) is) (onto_keeps front octet _ (octets_not_blank (i + 1 + 1) (drop (i + 1) text)))

  pub stops : (fault : HexFault) → Err fault ≡ next_stage stage (get_or bytes i 0) (i + 1) → Reads (Err fault) (octets_of text)
  stops fault is = refuses fault text (turn (Err fault) is)
