-- What a route means, and what each call answers and leaves.
use Rattle.std.specs.Prelude.{ℕ, ◌+◌, ◌-◌, ◌<◌, ◌≤◌, min, Bool, cond, ◌&&◌, List, [], ◌∷◌, ◌++◌, length, take, drop, Ok, Err, Result, ◌==◌, nat_le, nat_lt, slice_index_or}
use Rattle.message.specs.declared.fault.Fault.{Fault}
use Rattle.message.specs.declared.fault.Refusal.{Refusal}
use Rattle.message.specs.declared.fault.Refusal.TheVariants.{MemorySize, NoSuchEnd, NoMessage, MessageLength, WayFull}

-- a list of messages, oldest first, each by its octets
abbrev pub Messages : Type 0
Messages = List (List ℕ)

-- what a route means: the messages toward end 0 and toward end 1, and how many each list can hold
pub record Ways : Type 0 where
  pub zero : Messages
  pub one : Messages
  pub capacity : ℕ

-- a route that holds the list f e toward each end e
abbrev pub ways_of : (ℕ → Messages) → ℕ → Ways
ways_of f n = record { zero = f 0; one = f 1; capacity = n }

-- a new route
abbrev pub empty_ways : ℕ → Ways
empty_ways n = ways_of (λ _. []) n

-- the list toward the end e
abbrev pub toward : ℕ → Ways → Messages
toward e w = cond (e == 0) w.zero w.one

-- the same route with another list toward the end e
abbrev pub with_toward : ℕ → Messages → Ways → Ways
with_toward e l w = record { zero = cond (e == 0) l w.zero; one = cond (e == 0) w.one l; capacity = w.capacity }

-- the octets of a message: 1 to 268
abbrev pub message_sized : List ℕ → Bool
message_sized m = nat_lt 0 (length m) && nat_le (length m) 268

-- what is true of every route: its capacity is not 0, its lists keep within it, and its messages have 1 to 268 octets
pub record Sound (w : Ways) : Type 0 where
  pub some : 0 < w.capacity
  pub within : (e : ℕ) → length (toward e w) ≤ w.capacity
  pub low : (e k : ℕ) → k < length (toward e w) → 0 < length (slice_index_or (toward e w) k [])
  pub high : (e k : ℕ) → k < length (toward e w) → length (slice_index_or (toward e w) k []) ≤ 268

-- a refusal of a route's call has no place
abbrev pub refused : {X : Type 0} → Refusal → Result X Fault
refused r = Err (record { refusal = r; place = 0 })

-- PUT adds a message behind the list
abbrev pub put_answer : ℕ → List ℕ → Ways → Result Unit Fault
put_answer e m w =
    cond (nat_le 2 e) (refused NoSuchEnd)
    (cond (message_sized m) (cond (nat_le w.capacity (length (toward e w))) (refused WayFull) (Ok tt)) (refused MessageLength))

abbrev pub put_after : ℕ → List ℕ → Ways → Ways
put_after e m w =
    cond (nat_le 2 e) w
    (cond (message_sized m) (cond (nat_le w.capacity (length (toward e w))) w (with_toward e (toward e w ++ (m ∷ [])) w)) w)

-- octets at the front of a buffer, which keeps its rest
abbrev pub fronted : List ℕ → List ℕ → List ℕ
fronted m buffer = m ++ drop (length m) buffer

-- the oldest message of a list
abbrev pub oldest : Messages → List ℕ
oldest l = slice_index_or l 0 []

-- TAKE moves the oldest message to the front of a buffer, and answers its length
abbrev pub take_answer : ℕ → List ℕ → Ways → Result ℕ Fault
take_answer e buffer w =
    cond (nat_lt (length buffer) 268) (refused MemorySize)
    (cond (nat_le 2 e) (refused NoSuchEnd)
    (cond (length (toward e w) == 0) (refused NoMessage) (Ok (length (oldest (toward e w))))))

abbrev pub take_buffer : ℕ → List ℕ → Ways → List ℕ
take_buffer e buffer w =
    cond (nat_lt (length buffer) 268) buffer
    (cond (nat_le 2 e) buffer
    (cond (length (toward e w) == 0) buffer (fronted (oldest (toward e w)) buffer)))

abbrev pub take_after : ℕ → List ℕ → Ways → Ways
take_after e buffer w =
    cond (nat_lt (length buffer) 268) w
    (cond (nat_le 2 e) w
    (cond (length (toward e w) == 0) w (with_toward e (drop 1 (toward e w)) w)))

-- the largest number that COUNT and ROOM answer
abbrev pub most : ℕ
most = 4294967295

-- COUNT answers how many messages there are
abbrev pub count_answer : ℕ → Ways → Result ℕ Fault
count_answer e w = cond (nat_le 2 e) (refused NoSuchEnd) (Ok (min (length (toward e w)) most))

-- ROOM answers how many more there can be
abbrev pub room_answer : ℕ → Ways → Result ℕ Fault
room_answer e w = cond (nat_le 2 e) (refused NoSuchEnd) (Ok (min (w.capacity - length (toward e w)) most))

-- a list without what stands at a position
abbrev pub without : ℕ → Messages → Messages
without i l = take i l ++ drop (i + 1) l

-- LOSE removes the message at a position, 0 being the oldest
abbrev pub lose_answer : ℕ → ℕ → Ways → Result Unit Fault
lose_answer e i w = cond (nat_le 2 e) (refused NoSuchEnd) (cond (nat_le (length (toward e w)) i) (refused NoMessage) (Ok tt))

abbrev pub lose_after : ℕ → ℕ → Ways → Ways
lose_after e i w = cond (nat_le 2 e) w (cond (nat_le (length (toward e w)) i) w (with_toward e (without i (toward e w)) w))

-- two routes in a row: the second's messages are the older ones
abbrev pub joined : Ways → Ways → Ways
joined a b = record { zero = b.zero ++ a.zero; one = b.one ++ a.one; capacity = a.capacity + b.capacity }
