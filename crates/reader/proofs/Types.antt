-- The length and the type of a message, before anything else of it is read.
use Rattle.std.proofs.Common.{◌≡◌, ℕ, true, false, eqb, ◌≢◌, List, length, get_or, Err, sym, refl}
use Rattle.std.proofs.lemmas.Bool.{ne_eqb}
use Rattle.message.specs.declared.fault.Refusal.TheVariants.{MessageLength, UnknownType}
use Rattle.message.specs.declared.kind.MessageType.{MessageType}
use Rattle.message.specs.declared.kind.MessageType.TheVariants.{ConnectionRequest, ConnectionConfirm, ConnectionRefused, Released, ReleaseComplete, DataForm1, DataForm2, DataAcknowledgement, ResetRequest, ResetConfirm, Error}
use Rattle.message.specs.Types.{type_octet}
use Rattle.reader.specs.Window.{Window}
use Rattle.message.specs.Content.{between}
use Rattle.reader.specs.Reading.{reading, message_of, value}

pub bad_length : (octets : List ℕ) → between 1 268 (length octets) ≡ false → reading octets ≡ Err (record { refusal = MessageLength; place = 0 })
unfolding reading
bad_length octets h = simp h refl

pub by_type : (octets : List ℕ) → between 1 268 (length octets) ≡ true → reading octets ≡ value (message_of (get_or octets 0 0) (record { octets = octets; place = 1 }))
unfolding reading
by_type octets h = simp h refl

-- an octet that stands for no type is refused
pub no_type : (octet : ℕ) (w : Window) → ((type : MessageType) → type_octet type ≢ octet) → message_of octet w ≡ Err (record { refusal = UnknownType; place = 0 })
no_type octet w none =
    let other : (type : MessageType) → eqb octet (type_octet type) ≡ false = λ type. ne_eqb octet (type_octet type) (λ same. none type (sym same)) in
    simp (
      other ConnectionRequest,
      other ConnectionConfirm,
      other ConnectionRefused,
      other Released,
      other ReleaseComplete,
      other DataForm1,
      other DataForm2,
      other DataAcknowledgement,
      other ResetRequest,
      other ResetConfirm,
      other Error,
    ) refl
