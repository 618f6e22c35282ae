-- What a slot holds.
use Rattle.std.specs.Prelude.{◌≡◌, ℕ, List, take, Result, MatchResult, true, false}
use Rattle.message.specs.declared.fault.Fault.{Fault}
use Rattle.message.specs.declared.fault.Refusal.TheVariants.{MessageLength}
use Rattle.route.specs.Ways.{message_sized}
use Rattle.route.specs.declared.slot.Slot.{Slot}

-- the message in a slot
abbrev pub message_of : Slot → List ℕ
message_of s = take s.size s.octets

-- a slot for a message: it holds that one, or the message's length is refused
abbrev pub Holds : List ℕ → Result Slot Fault → Type 0
Holds m r = MatchResult r (λ s. (message_sized m ≡ true) × (message_of s ≡ m)) (λ f. (message_sized m ≡ false) × (f ≡ record { refusal = MessageLength; place = 0 }))
