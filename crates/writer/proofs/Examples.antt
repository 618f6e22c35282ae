-- The worked examples hold: antt computes them.
use Rattle.std.proofs.Common.{refl}
use Rattle.reader.specs.Reading.{header, octet, ends, counted, reference, field, sequence_number, pointer, points_here, variable, called_address, segment, called_party, credit_after, parameters, optional_part, agreed, two_references, reading}
use Rattle.writer.specs.Examples.{WorkedExamples}

pub worked_examples : WorkedExamples
unfolding header octet ends counted reference field sequence_number pointer points_here variable called_address segment called_party credit_after parameters optional_part agreed two_references reading
worked_examples = (refl, refl, refl, refl, refl, refl, refl, refl, λ octets e. rw e refl)
