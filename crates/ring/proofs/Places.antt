-- Turns have slots of their own.
use Rattle.std.specs.Prelude.{◌≡◌, ℕ, ◌+◌, ◌<◌, ◌≤◌, ◌≢◌}
use Rattle.std.proofs.Common.{arith}
use Rattle.std.proofs.lemmas.Bool.Decides.{nat_tests}
use Rattle.ring.specs.Rounds.{wrap, place}

pub place_apart : (e n h j k : ℕ) → h < n → j < n → k < n → j ≢ k → place e n h j ≢ place e n h k
place_apart e n h j k a b c d z = grind (arith, nat_tests)

pub half_apart : (d e n g h j k : ℕ) → d < 2 → e < 2 → d ≢ e → g < n → h < n → j < n → k < n → place d n g j ≢ place e n h k
half_apart d e n g h j k p q r a b c i z = grind (arith, nat_tests)

pub place_next : (e n h k : ℕ) → h < n → k + 1 ≤ n → place e n (wrap n (h + 1)) k ≡ place e n h (1 + k)
place_next e n h k a b = grind (arith, nat_tests)
