-- A message that is put, and the oldest one that is then taken.
use Rattle.std.proofs.Common.{◌≡◌, ℕ, ◌-◌, ◌<◌, ◌≤◌, cond, List, [], ◌∷◌, ◌++◌, length, take, drop, is_ok, Ok, Err, sym, ap, ◌∙◌, ⊎_elim, arith, length-append}
use Rattle.std.proofs.Math.Nat.{sub-zero}
use Rattle.std.proofs.lemmas.Bool.{true≢false}
use Rattle.message.specs.declared.fault.Fault.{Fault}
use Rattle.route.specs.Ways.{Ways, Messages, toward, with_toward, oldest, put_answer, put_after, take_answer, take_buffer, take_after}
use Rattle.route.specs.Passing.{pass_after}
use Rattle.route.proofs.Calls.{toward_same, with_with, take_fits}
use Rattle.route.proofs.Laws.{laws, put_does}

-- after PUT was accepted, TAKE is accepted too
pub record Taken (e : ℕ) (m b : List ℕ) (w : Ways) : Type 0 where
  pub answer : Ok (length (oldest (toward e w ++ (m ∷ [])))) ≡ take_answer e b (put_after e m w)
  pub front : (n : ℕ) → Ok n ≡ take_answer e b (put_after e m w) → take n (take_buffer e b (put_after e m w)) ≡ oldest (toward e w ++ (m ∷ []))
  pub after : take_after e b (put_after e m w) ≡ pass_after e m w

pub put_then_taken : (e : ℕ) (m b : List ℕ) (w : Ways) → put_answer e m w ≡ Ok tt → 268 ≤ length b → Taken e m b w
put_then_taken e m b w h k =
    let l : Messages = toward e w ++ (m ∷ []) in
    ⊎_elim
    (λ z.
    let v = put_after e m w in
    let same : toward e v ≡ l = ap (toward e) z.2 ∙ toward_same e l w in
    let some : 0 < length (toward e v) = omega (arith, ap length same, length-append (toward e w) (m ∷ [])) in
    let t = take_fits e b v z.1 k some in
    let ok = z.0 in
    record {
      answer = ap (λ x. Ok (length (oldest x))) (sym same) ∙ t.0;
      front = (λ n i. laws.taken_is_oldest e n b v i ∙ ap oldest same);
      after = sym t.2 ∙ ap (λ x. with_toward e (drop 1 x) v) same ∙ ap (with_toward e (drop 1 l)) z.2 ∙ with_with e (drop 1 l) l w
          ∙ sym (ap (λ x. cond x (with_toward e (drop 1 l) w) w) ok);
    })
    (λ z. absurd (true≢false (sym (ap is_ok h) ∙ z.0)))
    (put_does e m w)

-- what is then at the front of the buffer
pub taken_front : (e n : ℕ) (m b b' : List ℕ) (w v : Ways) → put_answer e m w ≡ Ok tt → 268 ≤ length b → v ≡ put_after e m w →
    Ok n ≡ take_answer e b v → b' ≡ take_buffer e b v → take (n - 0) b' ≡ oldest (toward e w ++ (m ∷ []))
taken_front e n m b b' w v put size after told filled =
    ap (λ k. take k b') (sub-zero n) ∙ ap (take n) (filled ∙ ap (take_buffer e b) after)
    ∙ (put_then_taken e m b w put size).front n (told ∙ ap (take_answer e b) after)

-- after PUT was refused, nothing has changed
pub put_then_refused : (e : ℕ) (m : List ℕ) (w : Ways) (f : Fault) → Err f ≡ put_answer e m w → put_after e m w ≡ pass_after e m w
put_then_refused e m w f h =
    ⊎_elim (λ z. absurd (true≢false (sym z.0 ∙ ap is_ok (sym h))))
    (λ z. z.1 ∙ sym (ap (λ x. cond x (with_toward e (drop 1 (toward e w ++ (m ∷ []))) w) w) z.0))
    (put_does e m w)
