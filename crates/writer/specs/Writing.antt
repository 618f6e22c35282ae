-- What writing a message answers, and what it leaves in the buffer.
use Rattle.std.specs.Prelude.{ℕ, cond, List, ◌++◌, length, drop, Ok, Err, Result, nat_lt}
use Rattle.message.specs.declared.fault.Fault.{Fault}
use Rattle.message.specs.declared.fault.Refusal.TheVariants.{MemorySize, OutOfLimits}
use Rattle.message.specs.Content.{Content, within}
use Rattle.message.specs.Layout.{layout}

-- the message at the front of a buffer, and behind it what was there
abbrev pub laid : Content → List ℕ → List ℕ
laid c buffer = layout c ++ drop (length (layout c)) buffer

-- what writing answers: the size, or a refusal of a buffer under 268 octets, and then of a message with a field outside its limits
abbrev pub written_answer : Content → List ℕ → Result ℕ Fault
written_answer c buffer =
    cond (nat_lt (length buffer) 268) (Err (record { refusal = MemorySize; place = 0 }))
    (cond (within c) (Ok (length (layout c))) (Err (record { refusal = OutOfLimits; place = 0 })))

-- what writing leaves: a refusal changes nothing
abbrev pub written_buffer : Content → List ℕ → List ℕ
written_buffer c buffer = cond (nat_lt (length buffer) 268) buffer (cond (within c) (laid c buffer) buffer)
