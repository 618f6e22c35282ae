-- What is printed of a line that is no octets.
use Rattle.std.specs.Prelude.{ℕ, List, codes}
use Rattle.hex_text.specs.Faults.{fault_text}
use Rattle.decode.specs.declared.input.LineFault.{LineFault}
use Rattle.decode.specs.declared.input.LineFault.TheVariants.{Hex, Encoding}

-- the words behind the number of the line
abbrev pub line_fault_text : LineFault → List ℕ
line_fault_text (Hex fault) = fault_text fault
line_fault_text Encoding = codes "not UTF-8 text"
