-- Two routes in a row: what each call to a part does to the whole.
use Rattle.std.specs.Prelude.{◌≡◌, ℕ, ◌+◌, ◌-◌, ◌<◌, ◌≤◌, min, Bool, true, false, cond, ◌≢◌, List, [], ◌∷◌, ◌++◌, length, take, drop, is_ok, Ok, Err, Result, ◌==◌, refl}
use Rattle.std.proofs.Common.{append_assoc, sym, ap, ◌∙◌, ⊎_elim, arith}
use Rattle.std.proofs.Math.Nat.{sub-zero}
use Rattle.std.proofs.Math.Seq.{take-append-add, drop-append-add}
use Rattle.std.proofs.lemmas.Bool.Decides.{nat_tests}
use Rattle.std.proofs.lemmas.Bool.{cases_lt}
use Rattle.std.proofs.lemmas.List.{get_or_append_left, drop-append-le, take-append-le, take_at, take_all, drop_all, append-nil, nil_from_length, drop_more}
use Rattle.message.specs.declared.fault.Fault.{Fault}
use Rattle.message.specs.declared.fault.Refusal.TheVariants.{MessageLength, WayFull}
use Rattle.route.specs.Ways.{Ways, Messages, Sound, toward, with_toward, joined, message_sized, refused, oldest, fronted, without, most}
use Rattle.route.specs.Ways.{put_answer, put_after, take_answer, take_buffer, take_after, count_answer, room_answer, lose_answer, lose_after}
use Rattle.route.proofs.Calls.{toward_same, with_same, put_fits, take_fits, take_none, lose_fits, lose_none}
use Rattle.tandem.specs.Rooms.{RoomMade}
use Rattle.tandem.specs.Sound.{toward-joined, length-joined}

-- another list toward an end, in one or in both
with_both : (e : ℕ) (k l : Messages) (a b : Ways) → joined (with_toward e k a) (with_toward e l b) ≡ with_toward e (l ++ k) (joined a b)
with_both e k l a b =
    elim (e == 0) as (λ t. ◌≡◌ {A = Ways}
    (record { zero = cond t l b.zero ++ cond t k a.zero; one = cond t b.one l ++ cond t a.one k; capacity = a.capacity + b.capacity })
    (record { zero = cond t (l ++ k) (b.zero ++ a.zero); one = cond t (b.one ++ a.one) (l ++ k); capacity = a.capacity + b.capacity }))
    [ true ↦ refl | false ↦ refl ]

with_first : (e : ℕ) (k : Messages) (a b : Ways) → joined (with_toward e k a) b ≡ with_toward e (toward e b ++ k) (joined a b)
with_first e k a b = ap (λ v. joined (with_toward e k a) v) (sym (with_same e b)) ∙ with_both e k (toward e b) a b

with_second : (e : ℕ) (l : Messages) (a b : Ways) → joined a (with_toward e l b) ≡ with_toward e (l ++ toward e a) (joined a b)
with_second e l a b = ap (λ v. joined v (with_toward e l b)) (sym (with_same e a)) ∙ with_both e (toward e a) l a b

-- COUNT and ROOM: the sums, as far as they can be answered
count_ok : (e n : ℕ) (w : Ways) → Ok n ≡ count_answer e w → (e < 2) × (n ≡ min (length (toward e w)) most)
count_ok e n w h = grind (arith, nat_tests)

pub count_joined : (e m n s : ℕ) (a b : Ways) → Ok m ≡ count_answer e a → Ok n ≡ count_answer e b → s ≡ min (m + n) most → Ok s ≡ count_answer e (joined a b)
count_joined e m n s a b p q r = let l = length-joined e a b in let x = count_ok e m a p in let y = count_ok e n b q in grind (arith, nat_tests)

room_ok : (e n : ℕ) (w : Ways) → Ok n ≡ room_answer e w → (e < 2) × (n ≡ min (w.capacity - length (toward e w)) most)
room_ok e n w h = grind (arith, nat_tests)

pub room_joined : (e m n s : ℕ) (a b : Ways) → Sound a → Sound b → Ok m ≡ room_answer e a → Ok n ≡ room_answer e b → s ≡ min (m + n) most → Ok s ≡ room_answer e (joined a b)
room_joined e m n s a b i j p q r =
    let l = length-joined e a b in let x = room_ok e m a p in let y = room_ok e n b q in let k = i.within e in let k' = j.within e in grind (arith, nat_tests)

-- PUT: the first has room, or both are full, or the first's oldest message moves on
pub room_first : (e n : ℕ) (a b : Ways) → Sound b → Ok n ≡ room_answer e a → 0 < n → RoomMade e (Ok tt) a b a b
room_first e n a b s p h =
    let x = room_ok e n a p in let l = length-joined e a b in let i = s.within e in
    record { answer = grind (arith, nat_tests); same = refl; room = λ _. omega arith }

pub room_none : (e m n : ℕ) (f : Fault) (a b : Ways) → Ok m ≡ room_answer e a → m ≤ 0 → Ok n ≡ room_answer e b → n ≡ 0 → f ≡ record { refusal = WayFull; place = 0 } → RoomMade e (Err f) a b a b
room_none e m n f a b p h q i r =
    let x = room_ok e m a p in let y = room_ok e n b q in let l = length-joined e a b in
    record { answer = ap Err r ∙ grind (arith, nat_tests); same = refl; room = λ k. let z : ◌≡◌ {A = ℕ} 0 1 = cc in absurd (omega arith) }

pub room_moved : (e m n k : ℕ) (r : Result Unit Fault) (u u' : List ℕ) (a b a' b' : Ways) → Sound a → Ok m ≡ room_answer e a → m ≤ 0 → Ok n ≡ room_answer e b → n ≢ 0 →
    268 ≤ length u → Ok k ≡ take_answer e u a → u' ≡ take_buffer e u a → a' ≡ take_after e u a →
    r ≡ put_answer e (take (k - 0) u') b → b' ≡ put_after e (take (k - 0) u') b → RoomMade e r a b a' b'
room_moved e m n k r u u' a b a' b' s p h q i size taken filled left answer after =
    let x = room_ok e m a p in let y = room_ok e n b q in
    let some : 0 < length (toward e a) = omega (arith, s.some) in
    let t = take_fits e u a x.0 size some in
    let moving : List ℕ = oldest (toward e a) in let rest : Messages = drop 1 (toward e a) in
    let split : toward e a ≡ moving ∷ rest = drop_more (toward e a) 0 [] some in
    let k_is : k - 0 ≡ length moving = let z : ◌≡◌ {A = Result ℕ Fault} (Ok k) (Ok (length moving)) = taken ∙ sym t.0 in sub-zero k ∙ cc in
    let sent_is : take (k - 0) u' ≡ moving = ap (λ v. take (k - 0) v) (filled ∙ sym t.1) ∙ take_at moving (drop (length moving) u) (k - 0) (sym k_is) in
    let low = s.low e 0 some in let high = s.high e 0 some in
    let put = put_fits e moving b x.0 (grind (arith, nat_tests)) (omega arith) in
    let a_is : a' ≡ with_toward e rest a = left ∙ sym t.2 in
    let b_is : b' ≡ with_toward e (toward e b ++ (moving ∷ [])) b = after ∙ ap (λ v. put_after e v b) sent_is ∙ sym put.1 in
    let l = length-joined e a b in
    record {
      answer = answer ∙ ap (λ v. put_answer e v b) sent_is ∙ sym put.0 ∙ grind (arith, nat_tests);
      same = ap (λ w. joined w b') a_is ∙ ap (λ w. joined (with_toward e rest a) w) b_is ∙ with_both e rest (toward e b ++ (moving ∷ [])) a b
          ∙ ap (λ v. with_toward e v (joined a b)) (append_assoc (toward e b) (moving ∷ []) rest ∙ ap (λ v. toward e b ++ v) (sym split) ∙ sym (toward-joined e a b))
          ∙ with_same e (joined a b);
      room = λ _. omega (arith, ap (λ w. w.capacity) a_is, ap length (ap (λ w. toward e w) a_is ∙ toward_same e rest a), ap length split, s.within e);
    }

pub put_first : (e : ℕ) (m : List ℕ) (r : Result Unit Fault) (a b a' b' a'' : Ways) → ◌≡◌ {A = Result Unit Fault} (Ok tt) (cond (message_sized m) (Ok tt) (refused MessageLength)) → RoomMade e (Ok tt) a b a' b' →
    r ≡ put_answer e m a' → a'' ≡ put_after e m a' → (r ≡ put_answer e m (joined a b)) × (joined a'' b' ≡ put_after e m (joined a b))
put_first e m r a b a' b' a'' size made answer after =
    let sized : message_sized m ≡ true = grind (arith, nat_tests) in
    let k = made.answer in
    let f : (e < 2) × (length (toward e (joined a b)) < (joined a b).capacity) = grind (arith, nat_tests) in
    let x = put_fits e m a' f.0 sized (made.room refl) in let y = put_fits e m (joined a b) f.0 sized f.1 in (
      answer ∙ sym x.0 ∙ y.0,
      ap (λ w. joined w b') (after ∙ sym x.1) ∙ with_first e (toward e a' ++ (m ∷ [])) a' b'
          ∙ ap (λ v. with_toward e v (joined a' b')) (sym (append_assoc (toward e b') (toward e a') (m ∷ [])) ∙ ap (λ v. v ++ (m ∷ [])) (sym (toward-joined e a' b')))
          ∙ ap (λ w. with_toward e (toward e w ++ (m ∷ [])) w) made.same ∙ y.1,
    )

-- TAKE: from the second, or from the first where the second is empty
take_after_is : (e : ℕ) (u : List ℕ) (w : Ways) → e < 2 → 268 ≤ length u → take_after e u w ≡ with_toward e (drop 1 (toward e w)) w
take_after_is e u w h i =
    ⊎_elim
    (λ (p : 0 < length (toward e w)). sym (take_fits e u w h i p).2)
    (λ (p : length (toward e w) ≤ 0).
    let z : length (toward e w) ≡ 0 = omega arith in let n = nil_from_length (toward e w) z in
    sym (take_none e u w h i z).2 ∙ sym (with_same e w) ∙ ap (λ l. with_toward e l w) (n ∙ sym (ap (λ l. drop 1 l) n)))
    (cases_lt 0 (length (toward e w)))

pub take_second : (e n : ℕ) (r : Result ℕ Fault) (u u' : List ℕ) (a b b' : Ways) → 268 ≤ length u → Ok n ≡ count_answer e b → n ≢ 0 →
    r ≡ take_answer e u b → u' ≡ take_buffer e u b → b' ≡ take_after e u b →
    (r ≡ take_answer e u (joined a b)) × (u' ≡ take_buffer e u (joined a b)) × (joined a b' ≡ take_after e u (joined a b))
take_second e n r u u' a b b' size count h answer filled after =
    let k = count_ok e n b count in
    let some : 0 < length (toward e b) = omega arith in
    let x = take_fits e u b k.0 size some in let y = take_fits e u (joined a b) k.0 size (omega (arith, length-joined e a b)) in
    let same : oldest (toward e b) ≡ oldest (toward e (joined a b)) =
    sym (get_or_append_left (toward e b) (toward e a) [] 0 some) ∙ ap oldest (sym (toward-joined e a b)) in (
      answer ∙ sym x.0 ∙ ap (λ l. Ok (length l)) same ∙ y.0,
      filled ∙ sym x.1 ∙ ap (λ l. fronted l u) same ∙ y.1,
      ap (λ w. joined a w) (after ∙ sym x.2) ∙ with_second e (drop 1 (toward e b)) a b
          ∙ ap (λ l. with_toward e l (joined a b)) (sym (drop-append-le 1 (toward e b) (toward e a) some) ∙ ap (λ l. drop 1 l) (sym (toward-joined e a b))) ∙ y.2,
    )

pub take_first : (e n : ℕ) (r : Result ℕ Fault) (u u' : List ℕ) (a b a' : Ways) → 268 ≤ length u → Ok n ≡ count_answer e b → n ≡ 0 →
    r ≡ take_answer e u a → u' ≡ take_buffer e u a → a' ≡ take_after e u a →
    (r ≡ take_answer e u (joined a b)) × (u' ≡ take_buffer e u (joined a b)) × (joined a' b ≡ take_after e u (joined a b))
take_first e n r u u' a b a' size count h answer filled after =
    let k = count_ok e n b count in
    let none = nil_from_length (toward e b) (omega arith) in
    let same : toward e a ≡ toward e (joined a b) = sym (toward-joined e a b ∙ ap (λ l. l ++ toward e a) none) in (
      answer ∙ simp same refl,
      filled ∙ simp same refl,
      ap (λ w. joined w b) (after ∙ take_after_is e u a k.0 size) ∙ with_first e (drop 1 (toward e a)) a b
          ∙ ap (λ l. with_toward e (l ++ drop 1 (toward e a)) (joined a b)) none ∙ ap (λ l. with_toward e (drop 1 l) (joined a b)) same
          ∙ sym (take_after_is e u (joined a b) k.0 size),
    )

-- LOSE: in the second, or in the first where the second has no message at the position
lose_after_is : (e i : ℕ) (w : Ways) → e < 2 → lose_after e i w ≡ with_toward e (without i (toward e w)) w
lose_after_is e i w h =
    ⊎_elim
    (λ (p : i < length (toward e w)). sym (lose_fits e i w h p).1)
    (λ (p : length (toward e w) ≤ i).
    let all : toward e w ≡ without i (toward e w) =
    sym (append-nil (toward e w)) ∙ ap (λ l. l ++ []) (sym (take_all i (toward e w) p)) ∙ ap (λ l. take i (toward e w) ++ l) (sym (drop_all (i + 1) (toward e w) (omega arith))) in
    sym (lose_none e i w h p).1 ∙ sym (with_same e w) ∙ ap (λ l. with_toward e l w) all)
    (cases_lt i (length (toward e w)))

without_front : (i : ℕ) (x y : Messages) → i < length x → without i x ++ y ≡ without i (x ++ y)
without_front i x y h =
    append_assoc (take i x) (drop (i + 1) x) y
    ∙ ap (λ l. take i x ++ l) (sym (drop-append-le (i + 1) x y (omega arith)))
    ∙ ap (λ l. l ++ drop (i + 1) (x ++ y)) (sym (take-append-le i x y (omega arith)))

without_back : (i j : ℕ) (x y : Messages) → length x + j ≡ i → x ++ without j y ≡ without i (x ++ y)
without_back i j x y h =
    sym (append_assoc x (take j y) (drop (j + 1) y))
    ∙ ap (λ l. l ++ drop (j + 1) y) (sym (take-append-add x y j) ∙ ap (λ k. take k (x ++ y)) h)
    ∙ ap (λ l. take i (x ++ y) ++ l) (sym (drop-append-add x y (j + 1)) ∙ ap (λ k. drop k (x ++ y)) (omega arith))

pub lose_second : (e i : ℕ) (r : Result Unit Fault) (ok : Bool) (a b b' : Ways) → r ≡ lose_answer e i b → b' ≡ lose_after e i b → ok ≡ is_ok r → ok ≡ true →
    (Ok tt ≡ lose_answer e i (joined a b)) × (joined a b' ≡ lose_after e i (joined a b))
lose_second e i r ok a b b' answer after tested h =
    let q : is_ok (lose_answer e i b) ≡ true = ap is_ok (sym answer) ∙ sym tested ∙ h in
    let f : (e < 2) × (i < length (toward e b)) = grind (arith, nat_tests) in
    let l = length-joined e a b in (
      grind (arith, nat_tests),
      ap (λ w. joined a w) (after ∙ lose_after_is e i b f.0) ∙ with_second e (without i (toward e b)) a b
          ∙ ap (λ l. with_toward e l (joined a b)) (without_front i (toward e b) (toward e a) f.1 ∙ ap (λ l. without i l) (sym (toward-joined e a b)))
          ∙ sym (lose_after_is e i (joined a b) f.0),
    )

pub lose_first : (e i n : ℕ) (r r' : Result Unit Fault) (ok : Bool) (a b a' b' : Ways) → i ≤ most → Ok n ≡ count_answer e b → r ≡ lose_answer e i b → b' ≡ lose_after e i b → ok ≡ is_ok r → ok ≡ false →
    r' ≡ lose_answer e (i - n) a → a' ≡ lose_after e (i - n) a → (r' ≡ lose_answer e i (joined a b)) × (joined a' b' ≡ lose_after e i (joined a b))
lose_first e i n r r' ok a b a' b' high count answer after tested h answer' after' =
    let q : is_ok (lose_answer e i b) ≡ false = ap is_ok (sym answer) ∙ sym tested ∙ h in
    let f : (e < 2) × (length (toward e b) ≤ i) = grind (arith, nat_tests) in
    let place : length (toward e b) + (i - n) ≡ i = omega (arith, (count_ok e n b count).1, f.1) in
    let b_is : b' ≡ b = after ∙ sym (lose_none e i b f.0 f.1).1 in
    let l = length-joined e a b in (
      answer' ∙ grind (arith, nat_tests),
      ap (λ w. joined a' w) b_is ∙ ap (λ w. joined w b) (after' ∙ lose_after_is e (i - n) a f.0) ∙ with_first e (without (i - n) (toward e a)) a b
          ∙ ap (λ l. with_toward e l (joined a b)) (without_back i (i - n) (toward e b) (toward e a) place ∙ ap (λ l. without i l) (sym (toward-joined e a b)))
          ∙ sym (lose_after_is e i (joined a b) f.0),
    )
