-- A number tells its refusal.
use Rattle.std.proofs.Common.{◌≡◌, ℕ, cond, eqb, Option, Some, None, sym, refl, ap, ◌∙◌}
use Rattle.message.specs.declared.fault.Refusal.{Refusal}
use Rattle.message.specs.declared.fault.Refusal.TheVariants.{MemorySize, NoSuchEnd, NoMessage, MessageLength, UnknownType, CutShort, FieldValue, VariablePart, OptionalPart, CreditMisfit, NoSuchReference, OutOfLimits, WrongState, WrongClass, NoIdleRecord, WrongPlace, WindowFull, WayFull}
use Rattle.message.specs.Refusals.{number, NumbersApart}

-- the refusal with a number
abbrev numbered : ℕ → Option Refusal
numbered n =
    cond (eqb n 1) (Some MemorySize)
    (cond (eqb n 2) (Some NoSuchEnd)
    (cond (eqb n 3) (Some NoMessage)
    (cond (eqb n 4) (Some MessageLength)
    (cond (eqb n 5) (Some UnknownType)
    (cond (eqb n 6) (Some CutShort)
    (cond (eqb n 7) (Some FieldValue)
    (cond (eqb n 8) (Some VariablePart)
    (cond (eqb n 9) (Some OptionalPart)
    (cond (eqb n 10) (Some CreditMisfit)
    (cond (eqb n 11) (Some NoSuchReference)
    (cond (eqb n 12) (Some OutOfLimits)
    (cond (eqb n 13) (Some WrongState)
    (cond (eqb n 14) (Some WrongClass)
    (cond (eqb n 15) (Some NoIdleRecord)
    (cond (eqb n 16) (Some WrongPlace)
    (cond (eqb n 17) (Some WindowFull)
    (cond (eqb n 18) (Some WayFull) None)))))))))))))))))

found : (r : Refusal) → numbered (number r) ≡ Some r
found MemorySize = refl
found NoSuchEnd = refl
found NoMessage = refl
found MessageLength = refl
found UnknownType = refl
found CutShort = refl
found FieldValue = refl
found VariablePart = refl
found OptionalPart = refl
found CreditMisfit = refl
found NoSuchReference = refl
found OutOfLimits = refl
found WrongState = refl
found WrongClass = refl
found NoIdleRecord = refl
found WrongPlace = refl
found WindowFull = refl
found WayFull = refl

pub numbers_apart : NumbersApart
numbers_apart a b e = let same : Some a ≡ Some b = sym (found a) ∙ ap numbered e ∙ found b in cc
