-- What calls one after another do to a route, toward one end.
use Rattle.std.specs.Prelude.{ℕ, Bool, true, false, cond, ◌&&◌, List, [], ◌∷◌, ◌++◌, is_ok, ◌==◌}
use Rattle.route.specs.Ways.{Ways, Messages, toward, oldest}
use Rattle.route.specs.Ways.{put_answer, put_after, take_answer, take_after, count_answer, room_answer, lose_answer, lose_after}

-- a call on a bench route, with what it is given
pub data Call : Type 0 where
  put : (end : ℕ) (message : List ℕ) → Call
  take : (end : ℕ) (buffer : List ℕ) → Call
  count : (end : ℕ) → Call
  room : (end : ℕ) → Call
  lose : (end position : ℕ) → Call

-- the end that a call names
abbrev pub end_named : Call → ℕ
end_named (put e m) = e
end_named (take e b) = e
end_named (count e) = e
end_named (room e) = e
end_named (lose e i) = e

-- the call is not refused
abbrev pub accepted : Call → Ways → Bool
accepted (put e m) w = is_ok (put_answer e m w)
accepted (take e b) w = is_ok (take_answer e b w)
accepted (count e) w = is_ok (count_answer e w)
accepted (room e) w = is_ok (room_answer e w)
accepted (lose e i) w = is_ok (lose_answer e i w)

-- the route after a call
abbrev pub after : Call → Ways → Ways
after (put e m) w = put_after e m w
after (take e b) w = take_after e b w
after (count e) w = w
after (room e) w = w
after (lose e i) w = lose_after e i w

-- the call is not LOSE
abbrev pub keeps : Call → Bool
keeps (put e m) = true
keeps (take e b) = true
keeps (count e) = true
keeps (room e) = true
keeps (lose e i) = false

-- what a call puts on the way toward the end e
abbrev pub entered : ℕ → Call → Ways → Messages
entered e (put d m) w = cond (d == e && is_ok (put_answer d m w)) (m ∷ []) []
entered e (take d b) w = []
entered e (count d) w = []
entered e (room d) w = []
entered e (lose d i) w = []

-- what a call takes off it
abbrev pub taken : ℕ → Call → Ways → Messages
taken e (put d m) w = []
taken e (take d b) w = cond (d == e && is_ok (take_answer d b w)) (oldest (toward e w) ∷ []) []
taken e (count d) w = []
taken e (room d) w = []
taken e (lose d i) w = []

-- the same of calls one after another
abbrev pub after_all : List Call → Ways → Ways
after_all [] w = w
after_all (c ∷ cs) w = after_all cs (after c w)

abbrev pub all_entered : ℕ → List Call → Ways → Messages
all_entered e [] w = []
all_entered e (c ∷ cs) w = entered e c w ++ all_entered e cs (after c w)

abbrev pub all_taken : ℕ → List Call → Ways → Messages
all_taken e [] w = []
all_taken e (c ∷ cs) w = taken e c w ++ all_taken e cs (after c w)

abbrev pub all_keep : List Call → Bool
all_keep [] = true
all_keep (c ∷ cs) = keeps c && all_keep cs
