-- What passing a message through a route answers and leaves.
use Rattle.std.specs.Prelude.{◌≡◌, ℕ, Bool, cond, List, [], ◌∷◌, ◌++◌, drop, is_ok, Ok, Err, Result, MatchResult, IsTrue, ◌↔◌}
use Rattle.message.specs.declared.fault.Fault.{Fault}
use Rattle.route.specs.Ways.{Ways, toward, with_toward, oldest, put_answer}

-- the refusal of PUT, or whether the oldest message is then the one that was put
abbrev pub PassAnswer : ℕ → List ℕ → Ways → Result Bool Fault → Type 0
PassAnswer e m w r = MatchResult r
    (λ same. (put_answer e m w ≡ Ok tt) × (IsTrue same ↔ (oldest (toward e w ++ (m ∷ [])) ≡ m)))
    (λ f. put_answer e m w ≡ Err f)

-- the message is put behind the list, and the oldest one is gone
abbrev pub pass_after : ℕ → List ℕ → Ways → Ways
pass_after e m w = cond (is_ok (put_answer e m w)) (with_toward e (drop 1 (toward e w ++ (m ∷ []))) w) w
