-- What is written reads back: the octets of a message within its limits are laid out as that message.
use Rattle.std.proofs.Common.{◌≡◌, ℕ, ◌+◌, ◌*◌, ◌/◌, ◌%◌, ◌≤◌, Bool, true, false, eqb, leb, ◌⊎◌, List, [], ◌∷◌, length, Some, None, Ok, Option, refl, inl, inr, arith, lit≤}
use Rattle.std.proofs.lemmas.List.{length-append}
use Rattle.std.proofs.lemmas.Bool.{and_parts, leb-true}
use Rattle.std.proofs.lemmas.Bool.Decides.{nat_tests}
use Rattle.message.specs.Content as content
use Rattle.message.specs.Content.{Content, within, reference_fits, class_fits}
use Rattle.reader.specs.Reading.{reading}
use Rattle.message.specs.Layout.{layout, reference_octets, credit_part, IsReference, ended, with_credit, Points, HasCredit, LaidOut}
use Rattle.reader.proofs.Complete.{complete}

reference_back : (v : ℕ) → reference_fits v ≡ true → IsReference v (reference_octets v)
reference_back v h =
    let limits : (1 ≤ v) × (v ≤ 16777215) = (grind (arith, nat_tests), grind (arith, nat_tests)) in
    (v % 256, v / 256 % 256, v / 65536 % 256, refl, whole v limits.1, limits.0)
  where
    whole : (v : ℕ) → v ≤ 16777215 → v ≡ v % 256 + 256 * (v / 256 % 256) + 65536 * (v / 65536 % 256)
    whole v h = omega arith

-- class and credit, and what O points to
credit_back : (class credit : ℕ) (between : List ℕ) → class_fits class credit ≡ true →
    (found : Option ℕ) × Points true between found (credit_part class credit (1 + length between) between) × HasCredit class credit found
credit_back class credit between h = by (grind (arith, nat_tests))
  where
    by : ((class ≡ 2) × (credit ≡ 0)) ⊎ ((class ≡ 3) × (1 ≤ credit) × (credit ≤ 127)) →
        (found : Option ℕ) × Points true between found (credit_part class credit (1 + length between) between) × HasCredit class credit found
    by (inl (two, none)) = (None, rw two (inl (refl, refl)), inl (two, none, refl))
    by (inr (three, low, high)) = (Some credit, rw three (inr (9 ∷ 1 ∷ credit ∷ 0 ∷ [], refl, with_credit refl ended)), inr (three, refl, low, high))

laid_back : (c : Content) → within c ≡ true → LaidOut c (layout c)
laid_back (content.connection_request source class credit subsystem) h =
    let a = and_parts (reference_fits source) _ h in
    let b = and_parts (class_fits class credit) _ a.1 in
    let c = credit_back class credit (2 ∷ 66 ∷ subsystem ∷ []) b.0 in
    (reference_octets source, credit_part class credit 4 (2 ∷ 66 ∷ subsystem ∷ []), c.0, refl, reference_back source a.0, c.1, leb-true 1 subsystem (and_parts _ _ b.1).0, c.2)
laid_back (content.connection_confirm destination source class credit) h =
    let a = and_parts (reference_fits destination) _ h in
    let b = and_parts (reference_fits source) _ a.1 in
    let c = credit_back class credit [] b.1 in
    (reference_octets destination, reference_octets source, credit_part class credit 1 [], c.0, refl, reference_back destination a.0, reference_back source b.0, c.1, c.2)
laid_back (content.connection_refused destination cause) h =
    let a = and_parts (reference_fits destination) _ h in
    (reference_octets destination, 0 ∷ [], None, refl, reference_back destination a.0, leb-true cause 15 a.1, inl (refl, refl))
laid_back (content.released destination source cause) h =
    let a = and_parts (reference_fits destination) _ h in
    let b = and_parts (reference_fits source) _ a.1 in
    (reference_octets destination, reference_octets source, 0 ∷ [], None, refl, reference_back destination a.0, reference_back source b.0, leb-true cause 15 b.1, inl (refl, refl))
laid_back (content.release_complete destination source) h =
    let a = and_parts (reference_fits destination) _ h in
    (reference_octets destination, reference_octets source, refl, reference_back destination a.0, reference_back source a.1)
laid_back (content.data_form_1 destination more segment) h =
    let a = and_parts (reference_fits destination) _ h in
    (reference_octets destination, refl, reference_back destination a.0, leb-true 1 (length segment) (and_parts _ _ a.1).0)
laid_back (content.data_form_2 destination send receive more segment) h =
    let a = and_parts (reference_fits destination) _ h in
    let b = and_parts (leb send 127) _ a.1 in
    let c = and_parts (leb receive 127) _ b.1 in
    (reference_octets destination, refl, reference_back destination a.0, leb-true 1 (length segment) (and_parts _ _ c.1).0)
laid_back (content.data_acknowledgement destination receive credit) h =
    let a = and_parts (reference_fits destination) _ h in
    let b = and_parts (leb receive 127) _ a.1 in
    let c = and_parts (leb 1 credit) _ b.1 in
    (reference_octets destination, refl, reference_back destination a.0, leb-true 1 credit c.0, leb-true credit 127 c.1)
laid_back (content.reset_request destination source cause) h =
    let a = and_parts (reference_fits destination) _ h in
    let b = and_parts (reference_fits source) _ a.1 in
    (reference_octets destination, reference_octets source, refl, reference_back destination a.0, reference_back source b.0, leb-true cause 15 b.1)
laid_back (content.reset_confirm destination source) h =
    let a = and_parts (reference_fits destination) _ h in
    (reference_octets destination, reference_octets source, refl, reference_back destination a.0, reference_back source a.1)
laid_back (content.error destination cause) h =
    let a = and_parts (reference_fits destination) _ h in
    (reference_octets destination, refl, reference_back destination a.0, leb-true cause 4 a.1)

credit_size : (class credit distance : ℕ) (between : List ℕ) → length between ≤ 3 → length (credit_part class credit distance between) ≤ 8
credit_size class credit distance between h = by (eqb class 3) refl
  where
    by : (b : Bool) → eqb class 3 ≡ b → length (credit_part class credit distance between) ≤ 8
    by true e = rw e (omega (arith, length-append between (9 ∷ 1 ∷ credit ∷ 0 ∷ [])))
    by false e = rw e (omega arith)

-- no message is longer than 268 octets
pub size_back : (c : Content) → within c ≡ true → length (layout c) ≤ 268
size_back (content.connection_request source class credit subsystem) h = let s = credit_size class credit 4 (2 ∷ 66 ∷ subsystem ∷ []) (lit≤ tt) in omega arith
size_back (content.connection_confirm destination source class credit) h = let s = credit_size class credit 1 [] (lit≤ tt) in omega arith
size_back (content.connection_refused destination cause) h = lit≤ tt
size_back (content.released destination source cause) h = lit≤ tt
size_back (content.release_complete destination source) h = lit≤ tt
size_back (content.data_form_1 destination more segment) h =
    let a = and_parts (reference_fits destination) _ h in
    let s : length segment ≤ 255 = leb-true (length segment) 255 (and_parts (leb 1 (length segment)) _ a.1).1 in
    omega arith
size_back (content.data_form_2 destination send receive more segment) h =
    let a = and_parts (reference_fits destination) _ h in
    let b = and_parts (leb send 127) _ a.1 in
    let c = and_parts (leb receive 127) _ b.1 in
    let s : length segment ≤ 255 = leb-true (length segment) 255 (and_parts (leb 1 (length segment)) _ c.1).1 in
    omega arith
size_back (content.data_acknowledgement destination receive credit) h = lit≤ tt
size_back (content.reset_request destination source cause) h = lit≤ tt
size_back (content.reset_confirm destination source) h = lit≤ tt
size_back (content.error destination cause) h = lit≤ tt

-- what is written reads back to its fields
pub reads_back : (c : Content) → within c ≡ true → reading (layout c) ≡ Ok c
reads_back c h = complete (layout c) c (size_back c h, laid_back c h)
