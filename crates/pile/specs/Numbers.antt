-- The records of a pile, by what they are used for.
use Rattle.std.specs.Prelude.{◌≡◌, ℕ, ◌-◌, Option, None, Some, Bool, true, false, cond, ◌&&◌, List, [], map, count_by, find, ◌==◌, nat_lt}
use Rattle.std.specs.List.{range_with_len}
use Rattle.std.specs.Option.{option_map_or}
use Rattle.route.specs.Ends.{end_number}
use Rattle.route.specs.Ways.{Messages}
use Rattle.route.specs.Stored.{message_of}
use Rattle.pile.specs.declared.records.Waiting.{Waiting}
use Rattle.pile.specs.declared.records.Record.{Record}

-- a record is not in use
abbrev pub is_free : Option Waiting → Bool
is_free None = true
is_free (Some w) = false

-- a record holds a message toward the end e
abbrev pub toward_end : ℕ → Option Waiting → Bool
toward_end e None = false
toward_end e (Some w) = end_number w.end == e

-- a record holds the message with the queue number k toward the end e
abbrev pub waits : ℕ → ℕ → Option Waiting → Bool
waits e k None = false
waits e k (Some w) = end_number w.end == e && w.number == k

-- how many messages wait toward the end e
abbrev pub waiting : ℕ → List Record → ℕ
waiting e l = count_by (λ r. toward_end e r.tag) l

-- how many records have the queue number k toward the end e
abbrev pub holders : ℕ → ℕ → List Record → ℕ
holders e k l = count_by (λ r. waits e k r.tag) l

-- the messages toward each end have the queue numbers from 0 on, each by one record
abbrev pub Numbered : List Record → Type 0
Numbered l = (e k : ℕ) → holders e k l ≡ cond (nat_lt k (waiting e l)) 1 0

-- the message with the queue number k toward the end e: nothing where no record has it
abbrev pub message_numbered : ℕ → ℕ → List Record → List ℕ
message_numbered e k l = option_map_or (λ r. message_of r.slot) (find (λ r. waits e k r.tag) l) []

-- the messages toward the end e by their queue numbers
abbrev pub in_order : ℕ → List Record → Messages
in_order e l = map (λ k. message_numbered e k l) (range_with_len 0 (waiting e l))

-- what becomes of a record's use as the message with the queue number k toward the end e goes: its own record is free, and those behind it move up
abbrev pub moved_up : ℕ → ℕ → Option Waiting → Option Waiting
moved_up e k None = None
moved_up e k (Some w) =
    cond (end_number w.end == e) (cond (w.number == k) None (Some (record { end = w.end; number = cond (nat_lt k w.number) (w.number - 1) w.number }))) (Some w)

-- a record as that message goes
abbrev pub with_moved_up : ℕ → ℕ → Record → Record
with_moved_up e k r = record { tag = moved_up e k r.tag; slot = r.slot }

-- a record that is made free
abbrev pub freed : Record → Record
freed r = record { tag = None; slot = r.slot }
