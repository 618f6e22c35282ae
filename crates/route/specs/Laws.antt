-- What holds of every route, shown once over what a route means.
use Rattle.std.specs.Prelude.{◌≡◌, ℕ, ◌+◌, ◌<◌, ◌≤◌, true, false, ◌≢◌, List, [], ◌∷◌, ◌++◌, take, Ok}
use Rattle.route.specs.Ways.{Ways, Sound, Messages, toward, oldest, most, take_answer, take_buffer, count_answer, room_answer}
use Rattle.route.specs.Runs.{Call, end_named, accepted, after, after_all, all_entered, all_taken, all_keep}

-- the first list is the second, in the same order, with some messages left out
pub data InOrder : Messages → Messages → Type 0 where
  none : InOrder [] []
  both : {a b : Messages} (m : List ℕ) → InOrder a b → InOrder (m ∷ a) (m ∷ b)
  lost : {a b : Messages} (m : List ℕ) → InOrder a b → InOrder a (m ∷ b)

-- What was put comes out in order, octet for octet: after any calls, what was taken and then what still waits is what waited before and then what was put, less what was lost.
abbrev pub ComesOutInOrder : Type 0
ComesOutInOrder = (e : ℕ) (cs : List Call) (w : Ways) → e < 2 → InOrder (all_taken e cs w ++ toward e (after_all cs w)) (toward e w ++ all_entered e cs w)

-- Where no call is LOSE, nothing is missing.
abbrev pub NothingLostUnasked : Type 0
NothingLostUnasked = (e : ℕ) (cs : List Call) (w : Ways) → e < 2 → all_keep cs ≡ true → all_taken e cs w ++ toward e (after_all cs w) ≡ toward e w ++ all_entered e cs w

-- What TAKE leaves at the front of the buffer is the oldest message.
abbrev pub TakenIsOldest : Type 0
TakenIsOldest = (e n : ℕ) (b : List ℕ) (w : Ways) → Ok n ≡ take_answer e b w → take n (take_buffer e b w) ≡ oldest (toward e w)

-- COUNT and ROOM add up to the capacity, where it is within what they can tell.
abbrev pub CountAndRoom : Type 0
CountAndRoom = (e m n : ℕ) (w : Ways) → Sound w → w.capacity ≤ most → Ok m ≡ count_answer e w → Ok n ≡ room_answer e w → m + n ≡ w.capacity

-- A call toward one end leaves the other's list.
abbrev pub OtherEndStays : Type 0
OtherEndStays = (e : ℕ) (c : Call) (w : Ways) → e < 2 → end_named c ≢ e → toward e (after c w) ≡ toward e w

-- A refusal alters nothing.
abbrev pub RefusalAltersNothing : Type 0
RefusalAltersNothing = (c : Call) (w : Ways) → accepted c w ≡ false → after c w ≡ w

pub record Laws : Type 0 where
  pub comes_out_in_order : ComesOutInOrder
  pub nothing_lost_unasked : NothingLostUnasked
  pub taken_is_oldest : TakenIsOldest
  pub count_and_room : CountAndRoom
  pub other_end_stays : OtherEndStays
  pub refusal_alters_nothing : RefusalAltersNothing
