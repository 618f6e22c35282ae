-- What a slot holds is a message.
use Rattle.std.proofs.Common.{◌≡◌, ◌<◌, ◌≤◌, length, arith}
use Rattle.std.proofs.lemmas.List.{length-take-le}
use Rattle.route.specs.declared.slot.Slot.{Slot}
use Rattle.route.specs.Stored.{message_of}

pub sized : (s : Slot) → (0 < length (message_of s)) × (length (message_of s) ≤ 268)
sized s =
    let n : length (message_of s) ≡ s.size = length-take-le s.size s.octets (omega (arith, s.high, s.full)) in
    (omega (arith, n, s.low), omega (arith, n, s.high))
