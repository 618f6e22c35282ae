-- The message type of the code, as its content: a segment's data is what the borrowed octets hold.
use Rattle.std.specs.Prelude.{ℕ, Some, None, Ok, Err, Option, Result}
use Rattle.message.specs.declared.fault.Fault.{Fault}
use Rattle.message.specs.declared.content.ErrorCause.{ErrorCause}
use Rattle.message.specs.declared.content.ErrorCause.TheVariants.{UnassignedDestination, InconsistentSource, PointCodeMismatch, ClassMismatch, Unqualified}
use Rattle.message.specs.declared.content.ClassNumber.{ClassNumber}
use Rattle.message.specs.declared.content.ClassNumber.TheVariants.{Two, Three}
use Rattle.message.specs.declared.content.Cause.{Cause}
use Rattle.message.specs.declared.content.Credit.{Credit}
use Rattle.message.specs.declared.content.ProtocolClass.{ProtocolClass}
use Rattle.message.specs.declared.content.ProtocolClass.TheVariants.{Class2, Class3}
use Rattle.message.specs.declared.content.Message.{Message}
use Rattle.message.specs.declared.content.Message.TheVariants.{ConnectionRequest, ConnectionConfirm, ConnectionRefused, Released, ReleaseComplete, DataForm1, DataForm2, DataAcknowledgement, ResetRequest, ResetConfirm, Error}
use Rattle.message.specs.Content as content
use Rattle.message.specs.Content.{Content}

-- the class as it stands in a message
abbrev pub class_number : ProtocolClass → ℕ
class_number Class2 = 2
class_number (Class3 credit) = 3

-- the number of a class by itself
abbrev pub class_octet : ClassNumber → ℕ
class_octet Two = 2
class_octet Three = 3

-- the credit that a class has
abbrev pub credit_of : ProtocolClass → Option Credit
credit_of Class2 = None
credit_of (Class3 credit) = Some credit

-- the credit, 0 in class 2
abbrev pub credit_number : ProtocolClass → ℕ
credit_number Class2 = 0
credit_number (Class3 credit) = credit.0

-- a cause and a credit as they stand in a message
abbrev pub cause_octet : Cause → ℕ
cause_octet cause = cause.0

abbrev pub credit_octet : Credit → ℕ
credit_octet credit = credit.0

-- the cause as it stands in ERR
abbrev pub error_number : ErrorCause → ℕ
error_number UnassignedDestination = 0
error_number InconsistentSource = 1
error_number PointCodeMismatch = 2
error_number ClassMismatch = 3
error_number Unqualified = 4

abbrev pub meaning : Message → Content
meaning (ConnectionRequest source class subsystem) = content.connection_request source.0 (class_number class) (credit_number class) subsystem.0
meaning (ConnectionConfirm destination source class) = content.connection_confirm destination.0 source.0 (class_number class) (credit_number class)
meaning (ConnectionRefused destination cause) = content.connection_refused destination.0 cause.0
meaning (Released destination source cause) = content.released destination.0 source.0 cause.0
meaning (ReleaseComplete destination source) = content.release_complete destination.0 source.0
meaning (DataForm1 destination more octets) = content.data_form_1 destination.0 more octets.now
meaning (DataForm2 destination send receive more octets) = content.data_form_2 destination.0 send.0 receive.0 more octets.now
meaning (DataAcknowledgement destination receive credit) = content.data_acknowledgement destination.0 receive.0 credit.0
meaning (ResetRequest destination source cause) = content.reset_request destination.0 source.0 cause.0
meaning (ResetConfirm destination source) = content.reset_confirm destination.0 source.0
meaning (Error destination cause) = content.error destination.0 (error_number cause)

-- a message's content, or the same fault
abbrev pub means : Result Message Fault → Result Content Fault
means (Ok message) = Ok (meaning message)
means (Err fault) = Err fault

-- the class and the credit that were agreed, or the same fault
abbrev pub classes : Result ProtocolClass Fault → Result (ℕ × ℕ) Fault
classes (Ok class) = Ok (class_number class, credit_number class)
classes (Err fault) = Err fault
