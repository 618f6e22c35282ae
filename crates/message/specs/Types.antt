-- The octets that stand for the types of messages.
use Rattle.std.specs.Prelude.{◌≡◌, ℕ, ◌≢◌, Result, MatchResult}
use Rattle.message.specs.declared.fault.Fault.{Fault}
use Rattle.message.specs.declared.fault.Refusal.TheVariants.{UnknownType}
use Rattle.message.specs.declared.kind.MessageType.{MessageType}
use Rattle.message.specs.declared.kind.MessageType.TheVariants.{ConnectionRequest, ConnectionConfirm, ConnectionRefused, Released, ReleaseComplete, DataForm1, DataForm2, DataAcknowledgement, ResetRequest, ResetConfirm, Error}

-- the octet of a type
abbrev pub type_octet : MessageType → ℕ
type_octet ConnectionRequest = 0x01
type_octet ConnectionConfirm = 0x02
type_octet ConnectionRefused = 0x03
type_octet Released = 0x04
type_octet ReleaseComplete = 0x05
type_octet DataForm1 = 0x06
type_octet DataForm2 = 0x07
type_octet DataAcknowledgement = 0x08
type_octet ResetRequest = 0x0D
type_octet ResetConfirm = 0x0E
type_octet Error = 0x0F

-- an octet is read as the type that it stands for, or refused where it stands for none
abbrev pub ReadsType : ℕ → Result MessageType Fault → Type 0
ReadsType octet r =
    MatchResult r (λ type. type_octet type ≡ octet) (λ fault. (fault ≡ record { refusal = UnknownType; place = 0 }) × ((type : MessageType) → type_octet type ≢ octet))
