-- The messages toward an end, by the end itself.
use Rattle.route.specs.Ends.{end_number}
use Rattle.route.specs.Ways.{Ways, Messages, toward, with_toward}
use Rattle.route.specs.declared.end.End.{End}

-- the messages toward an end, oldest first
abbrev pub queue : End → Ways → Messages
queue end w = toward (end_number end) w

-- the same route with a change of the messages toward an end
abbrev pub with_queue : End → (Messages → Messages) → Ways → Ways
with_queue end change w = with_toward (end_number end) (change (queue end w)) w
