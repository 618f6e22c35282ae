-- The number and the layer of each refusal.
use Rattle.std.specs.Prelude.{◌≡◌, ℕ}
use Rattle.message.specs.declared.fault.Layer.{Layer}
use Rattle.message.specs.declared.fault.Layer.TheVariants.{Route, Message, Node}
use Rattle.message.specs.declared.fault.Refusal.{Refusal}
use Rattle.message.specs.declared.fault.Refusal.TheVariants.{MemorySize, NoSuchEnd, NoMessage, MessageLength, UnknownType, CutShort, FieldValue, VariablePart, OptionalPart, CreditMisfit, NoSuchReference, OutOfLimits, WrongState, WrongClass, NoIdleRecord, WrongPlace, WindowFull, WayFull}

-- the number by which a refusal is known
abbrev pub number : Refusal → ℕ
number MemorySize = 1
number NoSuchEnd = 2
number NoMessage = 3
number MessageLength = 4
number UnknownType = 5
number CutShort = 6
number FieldValue = 7
number VariablePart = 8
number OptionalPart = 9
number CreditMisfit = 10
number NoSuchReference = 11
number OutOfLimits = 12
number WrongState = 13
number WrongClass = 14
number NoIdleRecord = 15
number WrongPlace = 16
number WindowFull = 17
number WayFull = 18

-- no number is given out twice
abbrev pub NumbersApart : Type 0
NumbersApart = (a b : Refusal) → number a ≡ number b → a ≡ b

-- the part of the stack that refuses: the way and its lists, the message's octets, or the node with its table
abbrev pub layer : Refusal → Layer
layer MemorySize = Node
layer NoSuchEnd = Route
layer NoMessage = Route
layer MessageLength = Message
layer UnknownType = Message
layer CutShort = Message
layer FieldValue = Message
layer VariablePart = Message
layer OptionalPart = Message
layer CreditMisfit = Message
layer NoSuchReference = Node
layer OutOfLimits = Node
layer WrongState = Node
layer WrongClass = Node
layer NoIdleRecord = Node
layer WrongPlace = Node
layer WindowFull = Node
layer WayFull = Route

-- the number by which a layer is known
abbrev pub layer_number : Layer → ℕ
layer_number Route = 1
layer_number Message = 2
layer_number Node = 3
