-- What a message says, in plain numbers and lists, and the limits of each field.
use Rattle.std.specs.Prelude.{ℕ, Bool, ◌&&◌, ◌||◌, List, length, ◌==◌, nat_le}

-- the eleven messages. Class 2 has credit 0
pub data Content : Type 0 where
  connection_request : (source class credit subsystem : ℕ) → Content
  connection_confirm : (destination source class credit : ℕ) → Content
  connection_refused : (destination cause : ℕ) → Content
  released : (destination source cause : ℕ) → Content
  release_complete : (destination source : ℕ) → Content
  data_form_1 : (destination : ℕ) (more : Bool) (octets : List ℕ) → Content
  data_form_2 : (destination send receive : ℕ) (more : Bool) (octets : List ℕ) → Content
  data_acknowledgement : (destination receive credit : ℕ) → Content
  reset_request : (destination source cause : ℕ) → Content
  reset_confirm : (destination source : ℕ) → Content
  error : (destination cause : ℕ) → Content

-- from low to high, both included
abbrev pub between : ℕ → ℕ → ℕ → Bool
between low high x = nat_le low x && nat_le x high

-- a reference has three octets and is not 0
abbrev pub reference_fits : ℕ → Bool
reference_fits = between 1 16777215

-- class 2 without a credit, or class 3 with a credit of 1 to 127
abbrev pub class_fits : ℕ → ℕ → Bool
class_fits class credit = (class == 2 && credit == 0) || (class == 3 && between 1 127 credit)

-- a segment's data
abbrev pub segment_fits : List ℕ → Bool
segment_fits octets = between 1 255 (length octets)

-- every field is within its limits
abbrev pub within : Content → Bool
within (connection_request source class credit subsystem) = reference_fits source && (class_fits class credit && between 1 255 subsystem)
within (connection_confirm destination source class credit) = reference_fits destination && (reference_fits source && class_fits class credit)
within (connection_refused destination cause) = reference_fits destination && nat_le cause 15
within (released destination source cause) = reference_fits destination && (reference_fits source && nat_le cause 15)
within (release_complete destination source) = reference_fits destination && reference_fits source
within (data_form_1 destination more octets) = reference_fits destination && segment_fits octets
within (data_form_2 destination send receive more octets) = reference_fits destination && (nat_le send 127 && (nat_le receive 127 && segment_fits octets))
within (data_acknowledgement destination receive credit) = reference_fits destination && (nat_le receive 127 && between 1 127 credit)
within (reset_request destination source cause) = reference_fits destination && (reference_fits source && nat_le cause 15)
within (reset_confirm destination source) = reference_fits destination && reference_fits source
within (error destination cause) = reference_fits destination && nat_le cause 4
