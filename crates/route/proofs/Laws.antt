-- The laws of every route.
use Rattle.std.proofs.Common.{◌≡◌, ℕ, ◌<◌, ◌≤◌, Bool, true, false, cond, ◌&&◌, eqb, ltb, leb, ◌≢◌, ◌⊎◌, List, [], ◌∷◌, ◌++◌, length, take, drop, is_ok, Ok, Result, sym, refl, ap, ◌∙◌, subst, inl, inr, ⊎_elim, append_assoc, append-nil, arith}
use Rattle.std.proofs.lemmas.Bool.Decides.{nat_tests}
use Rattle.std.proofs.lemmas.Bool.{cond-true, cond-false, cases_eq, leb-false, eq-eqb, ne_eqb, and_parts, and_right, true≢false, false≢true}
use Rattle.std.proofs.lemmas.List.{drop_more, take_at}
use Rattle.message.specs.declared.fault.Fault.{Fault}
use Rattle.message.specs.declared.fault.Refusal.{Refusal}
use Rattle.message.specs.declared.fault.Refusal.TheVariants.{NoMessage, WayFull}
use Rattle.route.specs.Ways.{Ways, Messages, refused, toward, with_toward, message_sized, oldest, without}
use Rattle.route.specs.Ways.{put_answer, put_after, take_answer, take_after, lose_answer, lose_after}
use Rattle.route.specs.Runs.{Call, put, take as take_call, count, room, lose, after, keeps, entered, taken, after_all, all_entered, all_taken, all_keep}
use Rattle.route.specs.Laws.{Laws, InOrder, ComesOutInOrder, NothingLostUnasked, TakenIsOldest, CountAndRoom, OtherEndStays, RefusalAltersNothing}
use Rattle.route.proofs.Calls.{toward_same, toward_other, take_fits}
use Rattle.route.proofs.Orders.{whole_of, through, behind, ahead_of, one_lost}

-- what a call does, by whether it is accepted
abbrev pub Does : Bool → ℕ → Messages → Ways → Ways → Type 0
Does ok d l w v = ((ok ≡ true) × (d < 2) × (v ≡ with_toward d l w)) ⊎ ((ok ≡ false) × (v ≡ w))

-- one check more, which refuses, or else leads on
unless : {X : Type 0} (no : Bool) (r : Refusal) (x : Result X Fault) (d : ℕ) (l : Messages) (w v : Ways) → (no ≡ false → Does (is_ok x) d l w v) →
    Does (is_ok (cond no (refused r) x)) d l w (cond no w v)
unless true r x d l w v k = inr (refl, refl)
unless false r x d l w v k = k refl

where_yes : {X : Type 0} (yes : Bool) (r : Refusal) (x : Result X Fault) (d : ℕ) (l : Messages) (w v : Ways) → Does (is_ok x) d l w v →
    Does (is_ok (cond yes x (refused r))) d l w (cond yes v w)
where_yes true r x d l w v k = k
where_yes false r x d l w v k = inr (refl, refl)

pub put_does : (d : ℕ) (m : List ℕ) (w : Ways) → Does (is_ok (put_answer d m w)) d (toward d w ++ (m ∷ [])) w (put_after d m w)
put_does d m w =
    unless (leb 2 d) _ _ d _ w _
    (λ end. where_yes (message_sized m) _ _ d _ w _ (unless (leb w.capacity (length (toward d w))) WayFull (Ok tt) d _ w _ (λ _. inl (refl, leb-false 2 d end, refl))))

take_does : (d : ℕ) (b : List ℕ) (w : Ways) → Does (is_ok (take_answer d b w)) d (drop 1 (toward d w)) w (take_after d b w)
take_does d b w =
    unless (ltb (length b) 268) _ _ d _ w _
    (λ _. unless (leb 2 d) _ _ d _ w _ (λ end. unless (eqb (length (toward d w)) 0) NoMessage (Ok (length (oldest (toward d w)))) d _ w _ (λ _. inl (refl, leb-false 2 d end, refl))))

lose_does : (d i : ℕ) (w : Ways) → Does (is_ok (lose_answer d i w)) d (without i (toward d w)) w (lose_after d i w)
lose_does d i w =
    unless (leb 2 d) _ _ d _ w _ (λ end. unless (leb (length (toward d w)) i) NoMessage (Ok tt) d _ w _ (λ _. inl (refl, leb-false 2 d end, refl)))

-- what a call does toward the end e: it is accepted there, or the list stays
abbrev Toward : ℕ → Bool → ℕ → Messages → Ways → Ways → Type 0
Toward e ok d l w v = ((d ≡ e) × (ok ≡ true) × (eqb d e && ok ≡ true) × (toward e v ≡ l)) ⊎ ((eqb d e && ok ≡ false) × (toward e v ≡ toward e w))

toward_does : (e : ℕ) (ok : Bool) (d : ℕ) (l : Messages) (w v : Ways) → e < 2 → Does ok d l w v → Toward e ok d l w v
toward_does e ok d l w v h (inr z) = inr (and_right (eqb d e) ok z.0, ap (toward e) z.1)
toward_does e ok d l w v h (inl z) =
    ⊎_elim
    (λ (same : d ≡ e). inl (same, z.0, and_true (eqb d e) ok (eq-eqb d e same) z.0, subst (λ x. toward x v ≡ l) same (ap (toward d) z.2 ∙ toward_same d l w)))
    (λ (n : d ≢ e). inr (and_left (eqb d e) ok (ne_eqb d e n), ap (toward e) z.2 ∙ toward_other e d l w h z.1 n))
    (cases_eq d e)
  where
    and_true : (a b : Bool) → a ≡ true → b ≡ true → a && b ≡ true
    and_true a b p q = simp (p, q) refl

    and_left : (a b : Bool) → a ≡ false → a && b ≡ false
    and_left a b p = simp p refl

-- toward the other end, and where it is refused
stays : (e : ℕ) (ok : Bool) (d : ℕ) (l : Messages) (w v : Ways) → e < 2 → d ≢ e → Does ok d l w v → toward e v ≡ toward e w
stays e ok d l w v h n does = ⊎_elim (λ z. absurd (n z.0)) (λ z. z.1) (toward_does e ok d l w v h does)

alters_nothing : (ok : Bool) (d : ℕ) (l : Messages) (w v : Ways) → ok ≡ false → Does ok d l w v → v ≡ w
alters_nothing ok d l w v h = ⊎_elim (λ z. absurd (true≢false (sym z.0 ∙ h))) (λ z. z.1)

put_keeps : (e d : ℕ) (m : List ℕ) (w : Ways) → e < 2 → toward e (put_after d m w) ≡ toward e w ++ entered e (put d m) w
put_keeps e d m w h =
    ⊎_elim
    (λ z. z.3 ∙ ap (λ x. toward x w ++ (m ∷ [])) z.0 ∙ ap (λ l. toward e w ++ l) (sym (cond-true (eqb d e && is_ok (put_answer d m w)) (m ∷ []) [] z.2)))
    (λ z. z.1 ∙ sym (append-nil (toward e w)) ∙ ap (λ l. toward e w ++ l) (sym (cond-false (eqb d e && is_ok (put_answer d m w)) (m ∷ []) [] z.0)))
    (toward_does e (is_ok (put_answer d m w)) d (toward d w ++ (m ∷ [])) w (put_after d m w) h (put_does d m w))

take_some : (e : ℕ) (b : List ℕ) (w : Ways) → is_ok (take_answer e b w) ≡ true → 0 < length (toward e w)
take_some e b w h = grind (arith, nat_tests)

take_keeps : (e d : ℕ) (b : List ℕ) (w : Ways) → e < 2 → taken e (take_call d b) w ++ toward e (take_after d b w) ≡ toward e w
take_keeps e d b w h =
    let t : Messages = toward e (take_after d b w) in
    let l : Messages = oldest (toward e w) ∷ [] in
    ⊎_elim
    (λ z. ap (λ v. v ++ t) (cond-true (eqb d e && is_ok (take_answer d b w)) l [] z.2) ∙ ap (λ v. oldest (toward e w) ∷ v) (z.3 ∙ ap (λ x. drop 1 (toward x w)) z.0)
    ∙ sym (drop_more (toward e w) 0 [] (subst (λ x. 0 < length (toward x w)) z.0 (take_some d b w z.1))))
    (λ z. ap (λ v. v ++ t) (cond-false (eqb d e && is_ok (take_answer d b w)) l [] z.0) ∙ z.1)
    (toward_does e (is_ok (take_answer d b w)) d (drop 1 (toward d w)) w (take_after d b w) h (take_does d b w))

lose_loses : (e d i : ℕ) (w : Ways) → e < 2 → InOrder (toward e (lose_after d i w)) (toward e w)
lose_loses e d i w h =
    ⊎_elim
    (λ z. subst (λ l. InOrder l (toward e w)) (sym (z.3 ∙ ap (λ x. without i (toward x w)) z.0)) (one_lost i (toward e w)))
    (λ z. whole_of _ _ z.1)
    (toward_does e (is_ok (lose_answer d i w)) d (without i (toward d w)) w (lose_after d i w) h (lose_does d i w))

-- one call that is not LOSE
kept : (e : ℕ) (c : Call) (w : Ways) → e < 2 → keeps c ≡ true → taken e c w ++ toward e (after c w) ≡ toward e w ++ entered e c w
kept e (put d m) w h k = put_keeps e d m w h
kept e (take_call d b) w h k = take_keeps e d b w h ∙ sym (append-nil (toward e w))
kept e (count d) w h k = sym (append-nil (toward e w))
kept e (room d) w h k = sym (append-nil (toward e w))
kept e (lose d i) w h k = absurd (false≢true k)

-- any call
ordered : (e : ℕ) (c : Call) (w : Ways) → e < 2 → InOrder (taken e c w ++ toward e (after c w)) (toward e w ++ entered e c w)
ordered e (put d m) w h = whole_of _ _ (kept e (put d m) w h refl)
ordered e (take_call d b) w h = whole_of _ _ (kept e (take_call d b) w h refl)
ordered e (count d) w h = whole_of _ _ (kept e (count d) w h refl)
ordered e (room d) w h = whole_of _ _ (kept e (room d) w h refl)
ordered e (lose d i) w h = subst (λ l. InOrder (toward e (lose_after d i w)) l) (sym (append-nil (toward e w))) (lose_loses e d i w h)

comes_out_in_order : ComesOutInOrder
comes_out_in_order e [] w h = whole_of _ _ (sym (append-nil (toward e w)))
comes_out_in_order e (c ∷ cs) w h =
    let x : Messages = taken e c w in
    let y : Messages = all_entered e cs (after c w) in
    subst (λ l. InOrder l (toward e w ++ (entered e c w ++ y))) (sym (append_assoc x (all_taken e cs (after c w)) (toward e (after_all cs (after c w)))))
    (through (behind x (comes_out_in_order e cs (after c w) h))
    (subst (λ l. InOrder l (toward e w ++ (entered e c w ++ y))) (append_assoc x (toward e (after c w)) y)
    (subst (λ l. InOrder ((x ++ toward e (after c w)) ++ y) l) (append_assoc (toward e w) (entered e c w) y) (ahead_of y (ordered e c w h)))))

nothing_lost_unasked : NothingLostUnasked
nothing_lost_unasked e [] w h k = sym (append-nil (toward e w))
nothing_lost_unasked e (c ∷ cs) w h k =
    let x : Messages = taken e c w in
    let y : Messages = all_entered e cs (after c w) in
    let z = and_parts (keeps c) (all_keep cs) k in
    append_assoc x (all_taken e cs (after c w)) (toward e (after_all cs (after c w))) ∙ ap (λ l. x ++ l) (nothing_lost_unasked e cs (after c w) h z.1)
    ∙ sym (append_assoc x (toward e (after c w)) y) ∙ ap (λ l. l ++ y) (kept e c w h z.0) ∙ append_assoc (toward e w) (entered e c w) y

taken_is_oldest : TakenIsOldest
taken_is_oldest e n b w h =
    let end : e < 2 = grind (arith, nat_tests) in
    let buffer : 268 ≤ length b = grind (arith, nat_tests) in
    let t = take_fits e b w end buffer (take_some e b w (ap is_ok (sym h))) in
    let same : n ≡ length (oldest (toward e w)) = (let y : ◌≡◌ {A = Result ℕ Fault} (Ok n) (Ok (length (oldest (toward e w)))) = h ∙ sym t.0 in cc) in
    ap (take n) (sym t.1) ∙ take_at (oldest (toward e w)) (drop (length (oldest (toward e w))) b) n (sym same)

count_and_room : CountAndRoom
count_and_room e m n w s k p q = let i = s.within e in grind (arith, nat_tests)

other_end_stays : OtherEndStays
other_end_stays e (put d m) w h n = stays e _ d _ w _ h n (put_does d m w)
other_end_stays e (take_call d b) w h n = stays e _ d _ w _ h n (take_does d b w)
other_end_stays e (count d) w h n = refl
other_end_stays e (room d) w h n = refl
other_end_stays e (lose d i) w h n = stays e _ d _ w _ h n (lose_does d i w)

refusal_alters_nothing : RefusalAltersNothing
refusal_alters_nothing (put d m) w k = alters_nothing _ d _ w _ k (put_does d m w)
refusal_alters_nothing (take_call d b) w k = alters_nothing _ d _ w _ k (take_does d b w)
refusal_alters_nothing (count d) w k = refl
refusal_alters_nothing (room d) w k = refl
refusal_alters_nothing (lose d i) w k = alters_nothing _ d _ w _ k (lose_does d i w)

pub laws : Laws
laws = record {
  comes_out_in_order = comes_out_in_order;
  nothing_lost_unasked = nothing_lost_unasked;
  taken_is_oldest = taken_is_oldest;
  count_and_room = count_and_room;
  other_end_stays = other_end_stays;
  refusal_alters_nothing = refusal_alters_nothing;
}
