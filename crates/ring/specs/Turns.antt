-- What a ring holds: the messages in its slots, in turn.
use Rattle.std.specs.Prelude.{ℕ, List, [], map, vec_items, slice_index_or}
use Rattle.std.specs.List.{range_with_len}
use Rattle.route.specs.declared.slot.Slot.{Slot}
use Rattle.route.specs.Ways.{Messages, Ways, ways_of}
use Rattle.route.specs.Stored.{message_of}
use Rattle.ring.specs.declared.ring.Ring.{Ring}
use Rattle.ring.specs.Rounds.{place, turns_of}

-- the message in a slot
abbrev pub message_at : List Slot → ℕ → List ℕ
message_at l p = slice_index_or (map message_of l) p []

-- the message of the turn k
abbrev pub turn : List Slot → ℕ → ℕ → ℕ → ℕ → List ℕ
turn l e n h k = message_at l (place e n h k)

-- the messages of the first c turns
abbrev pub turns : List Slot → ℕ → ℕ → ℕ → ℕ → Messages
turns l e n h c = map (turn l e n h) (range_with_len 0 c)

-- the messages toward the end e
abbrev pub queue : Ring → ℕ → Messages
queue r e = turns (vec_items r.slots) e r.capacity (turns_of r.ends e).oldest (turns_of r.ends e).count

-- what a ring means
abbrev pub ring_ways : Ring → Ways
ring_ways r = ways_of (queue r) r.capacity
