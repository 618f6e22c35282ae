-- The places of turns.
use Rattle.std.specs.Prelude.{ℕ, ◌+◌, ◌-◌, ◌*◌, cond, List, nat_lt, slice_index_or}
use Rattle.ring.specs.declared.turns.Turns.{Turns}

-- the turns of the end e
abbrev pub turns_of : List Turns → ℕ → Turns
turns_of ends e = slice_index_or ends e (record { oldest = 0; count = 0 })

-- the place x in a round of n
abbrev pub wrap : ℕ → ℕ → ℕ
wrap n x = cond (nat_lt x n) x (x - n)

-- the slot of the turn k toward the end e: every second slot is that end's, n in a round, and its turns begin at the place h of the round
abbrev pub place : ℕ → ℕ → ℕ → ℕ → ℕ
place e n h k = 2 * wrap n (h + k) + e
