-- What an octet string means: a message's content, or the one refusal that the checking order gives.
use Rattle.std.specs.Prelude.{◌≡◌, MatchResult, ℕ, zero, suc, ◌+◌, ◌*◌, ◌/◌, ◌%◌, Bool, true, false, cond, not, ◌&&◌, ◌||◌, List, length, take, drop, is_some, Some, None, Ok, Err, Option, Result, ◌==◌, nat_le, nat_lt, slice_index}
use Rattle.std.specs.Option.{unwrap_or}
use Rattle.message.specs.declared.fault.Fault.{Fault}
use Rattle.message.specs.declared.fault.Refusal.{Refusal}
use Rattle.message.specs.declared.fault.Refusal.TheVariants.{MessageLength, UnknownType, CutShort, FieldValue, VariablePart, OptionalPart, CreditMisfit}
use Rattle.message.specs.Content as content
use Rattle.message.specs.Content.{Content, between}
use Rattle.reader.specs.Window.{Window, Read, ◌>>=◌, ◌>>◌, choose, give, refuse, lift, here}

-- What steps are made of

-- the message has at least this many octets: its type, fixed fields and pointers are all there
unfoldable pub header : ℕ → Read (Unit {0})
header size w = cond (nat_lt (length w.octets) size) (refuse CutShort (length w.octets) w) (give tt w)

-- the next octet, or a refusal at the message's length
unfoldable pub octet : Refusal → Read ℕ
octet missing w =
    cond (nat_lt w.place (length w.octets))
    (Ok (slice_index w.octets w.place, record { octets = w.octets; place = w.place + 1 }))
    (refuse missing (length w.octets) w)

-- the message ends here, or a refusal at the first octet left
unfoldable pub ends : Refusal → Read (Unit {0})
ends left w = cond (nat_lt w.place (length w.octets)) (refuse left w.place w) (give tt w)

-- a length of at least 1 and as many octets, or a refusal at a place
unfoldable pub counted : Refusal → ℕ → Read (List ℕ)
counted wrong place w =
    cond (nat_lt w.place (length w.octets) && (nat_le 1 (slice_index w.octets w.place) && nat_le (w.place + 1 + slice_index w.octets w.place) (length w.octets)))
    (Ok (take (slice_index w.octets w.place) (drop (w.place + 1) w.octets), record { octets = w.octets; place = w.place + 1 + slice_index w.octets w.place }))
    (refuse wrong place w)

-- Fixed fields

-- a reference: three octets, the lowest first, not 0
unfoldable pub reference : Read ℕ
reference = do
  place ← here
  low ← octet CutShort
  middle ← octet CutShort
  high ← octet CutShort
  choose (low + 256 * middle + 65536 * high == 0) (refuse FieldValue place) (give (low + 256 * middle + 65536 * high))

-- a field of one octet, with a value from low to high
unfoldable pub field : ℕ → ℕ → Read ℕ
field low high = do
  place ← here
  x ← octet CutShort
  choose (between low high x) (give x) (refuse FieldValue place)

-- a field of one octet, converted: the fault of a missing octet, or what the conversion may give of it, refused at the field's place
abbrev pub Converts : {T : Type 0} → (ℕ → Result T Refusal → Type 0) → Result T Fault → Window → Window → Type 0
Converts {T} gives result after before =
    MatchResult (octet CutShort before)
    (λ p. (c : Result T Refusal) × gives p.0 c × (after ≡ p.1) × MatchResult c (λ x. result ≡ Ok x) (λ why. result ≡ Err (record { refusal = why; place = before.place })))
    (λ fault. result ≡ Err fault)

-- a sequence number by itself: twice its value
unfoldable pub sequence_number : Read ℕ
sequence_number = do
  place ← here
  x ← octet CutShort
  choose (x % 2 == 0) (give (x / 2)) (refuse FieldValue place)

-- a pointer: its place, and the distance to the first octet of its part
unfoldable pub pointer : Read (ℕ × ℕ)
pointer = do
  place ← here
  distance ← octet CutShort
  give (place, distance)

-- Variable part

-- a pointer points to the place reached
unfoldable pub points_here : ℕ × ℕ → Read (Unit {0})
points_here p w = cond (p.0 + p.1 == w.place) (give tt w) (refuse VariablePart p.0 w)

-- a variable part
unfoldable pub variable : Read (List ℕ)
variable = do
  place ← here
  counted VariablePart place

-- the called address: 42, and a subsystem number that is not 0
unfoldable pub called_address : Read ℕ
called_address = do
  place ← here
  part ← variable
  choose (length part == 2 && (slice_index part 0 == 0x42 && nat_le 1 (slice_index part 1))) (give (slice_index part 1)) (refuse VariablePart place)

-- V and a segment's data straight behind it, which end the message
unfoldable pub segment : Read (List ℕ)
segment = do
  v ← pointer
  points_here v
  octets ← variable
  ends VariablePart
  give octets

-- V, O and the called address straight behind them: the subsystem number, and O
unfoldable pub called_party : Read (ℕ × (ℕ × ℕ))
called_party = do
  v ← pointer
  o ← pointer
  points_here v
  subsystem ← called_address
  give (subsystem, o)

-- Optional part

-- the credit known after a parameter: where a credit is due, name 09 is one, of length 1, and no second one; any other parameter is stepped over
unfoldable pub credit_after : Bool → Option ℕ → ℕ → ℕ → List ℕ → Result (Option ℕ) Fault
credit_after due found named name part =
    cond (due && name == 0x09)
    (cond (is_some found || not (length part == 1)) (Err (record { refusal = OptionalPart; place = named })) (Ok (Some (slice_index part 0))))
    (Ok found)

-- an optional part: the octet 00, or a parameter followed by an optional part; at most so many parameters
unfoldable pub parameters : ℕ → Bool → Option ℕ → Read (Option ℕ)
parameters zero due found = do
  place ← here
  refuse OptionalPart place
parameters (suc depth) due found = do
  named ← here
  name ← octet OptionalPart
  choose (name == 0)
      (do
        ends OptionalPart
        give found)
      (do
        part ← counted OptionalPart named
        known ← lift (credit_after due found named name part)
        parameters depth due known)

-- an optional part, of any number of parameters: there are never as many as octets
abbrev pub any_parameters : Bool → Option ℕ → Read (Option ℕ)
any_parameters due found w = parameters (suc (length w.octets)) due found w

-- what O points to: nothing where it is 00, otherwise an optional part
unfoldable pub optional_part : Bool → ℕ × ℕ → Read (Option ℕ)
optional_part due o =
    choose (o.1 == 0)
    (do
      ends VariablePart
      give None)
    (do
      points_here o
      any_parameters due None)

-- the class and the credit: class 2 has none, which counts as 0, and class 3 has 1 to 127
unfoldable pub agreed : ℕ → ℕ → Option ℕ → Result (ℕ × ℕ) Fault
agreed place class found =
    cond (class == 2)
    (cond (is_some found) (Err (record { refusal = CreditMisfit; place = place })) (Ok (2, 0)))
    (cond (between 1 127 (unwrap_or found 0)) (Ok (3, unwrap_or found 0)) (Err (record { refusal = CreditMisfit; place = place })))

-- The eleven messages, behind the type: fixed fields, pointers, the variable part, the optional part

abbrev pub connection_request : Read Content
connection_request = do
  header 7
  source ← reference
  place ← here
  class ← field 2 3
  called ← called_party
  found ← optional_part true called.1
  both ← lift (agreed place class found)
  give (content.connection_request source both.0 both.1 called.0)

abbrev pub connection_confirm : Read Content
connection_confirm = do
  header 9
  destination ← reference
  source ← reference
  place ← here
  class ← field 2 3
  o ← pointer
  found ← optional_part true o
  both ← lift (agreed place class found)
  give (content.connection_confirm destination source both.0 both.1)

abbrev pub connection_refused : Read Content
connection_refused = do
  header 6
  destination ← reference
  cause ← field 0 15
  o ← pointer
  optional_part false o
  give (content.connection_refused destination cause)

abbrev pub released : Read Content
released = do
  header 9
  destination ← reference
  source ← reference
  cause ← field 0 15
  o ← pointer
  optional_part false o
  give (content.released destination source cause)

-- RLC and RSC: a destination and a source
unfoldable pub two_references : Read (ℕ × ℕ)
two_references = do
  header 7
  destination ← reference
  source ← reference
  ends VariablePart
  give (destination, source)

abbrev pub release_complete : Read Content
release_complete = do
  both ← two_references
  give (content.release_complete both.0 both.1)

abbrev pub data_form_1 : Read Content
data_form_1 = do
  header 6
  destination ← reference
  more ← field 0 1
  octets ← segment
  give (content.data_form_1 destination (more == 1) octets)

abbrev pub data_form_2 : Read Content
data_form_2 = do
  header 7
  destination ← reference
  send ← sequence_number
  second ← octet CutShort
  octets ← segment
  give (content.data_form_2 destination send (second / 2) (second % 2 == 1) octets)

abbrev pub data_acknowledgement : Read Content
data_acknowledgement = do
  header 6
  destination ← reference
  receive ← sequence_number
  credit ← field 1 127
  ends VariablePart
  give (content.data_acknowledgement destination receive credit)

abbrev pub reset_request : Read Content
reset_request = do
  header 8
  destination ← reference
  source ← reference
  cause ← field 0 15
  ends VariablePart
  give (content.reset_request destination source cause)

abbrev pub reset_confirm : Read Content
reset_confirm = do
  both ← two_references
  give (content.reset_confirm both.0 both.1)

abbrev pub error : Read Content
error = do
  header 5
  destination ← reference
  cause ← field 0 4
  ends VariablePart
  give (content.error destination cause)

-- the message of a type, behind its type octet
abbrev pub message_of : ℕ → Read Content
message_of type =
    choose (type == 0x01) connection_request
    (choose (type == 0x02) connection_confirm
    (choose (type == 0x03) connection_refused
    (choose (type == 0x04) released
    (choose (type == 0x05) release_complete
    (choose (type == 0x06) data_form_1
    (choose (type == 0x07) data_form_2
    (choose (type == 0x08) data_acknowledgement
    (choose (type == 0x0D) reset_request
    (choose (type == 0x0E) reset_confirm
    (choose (type == 0x0F) error
    (refuse UnknownType 0)))))))))))

-- the value alone
abbrev pub value : {A : Type 0} → Result (A × Window) Fault → Result A Fault
value (Ok p) = Ok p.0
value (Err fault) = Err fault

-- what an octet string means
unfoldable pub reading : List ℕ → Result Content Fault
reading octets =
    cond (between 1 268 (length octets))
    (value (message_of (slice_index octets 0) (record { octets = octets; place = 1 })))
    (Err (record { refusal = MessageLength; place = 0 }))
