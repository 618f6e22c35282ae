-- The two ends of a route.
use Rattle.std.specs.Prelude.{◌≡◌, ℕ, ◌<◌, ◌≤◌, Result, MatchResult}
use Rattle.message.specs.declared.fault.Fault.{Fault}
use Rattle.message.specs.declared.fault.Refusal.TheVariants.{NoSuchEnd}
use Rattle.route.specs.declared.end.End.{End}
use Rattle.route.specs.declared.end.End.TheVariants.{Zero, One}

-- the number of an end
abbrev pub end_number : End → ℕ
end_number Zero = 0
end_number One = 1

-- a number below 2 names its end, and any other is refused
abbrev pub NamesEnd : ℕ → Result End Fault → Type 0
NamesEnd n r = MatchResult r (λ end. (n < 2) × (end_number end ≡ n)) (λ f. (2 ≤ n) × (f ≡ record { refusal = NoSuchEnd; place = 0 }))
