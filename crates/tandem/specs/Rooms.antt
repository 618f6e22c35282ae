-- Room in the first of two routes in a row.
use Rattle.std.specs.Prelude.{◌≡◌, ℕ, ◌<◌, cond, length, Ok, Result, nat_le}
use Rattle.message.specs.declared.fault.Fault.{Fault}
use Rattle.message.specs.declared.fault.Refusal.TheVariants.{NoSuchEnd, WayFull}
use Rattle.route.specs.Ways.{Ways, toward, joined, refused}

-- room is asked for in the first of two routes a and b, which leaves a' and b': it is refused where both are full, the two in a row stay the same, and without a refusal the first has room
pub record RoomMade (e : ℕ) (r : Result Unit Fault) (a b a' b' : Ways) : Type 0 where
  pub answer : r ≡ cond (nat_le 2 e) (refused NoSuchEnd) (cond (nat_le (joined a b).capacity (length (toward e (joined a b)))) (refused WayFull) (Ok tt))
  pub same : joined a' b' ≡ joined a b
  pub room : r ≡ Ok tt → length (toward e a') < a'.capacity
