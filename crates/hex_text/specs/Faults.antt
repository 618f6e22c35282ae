-- What is said of a text that is no octets.
use Rattle.std.specs.Prelude.{ℕ, List, ◌++◌, codes, decimal}
use Prim.Native.String.{String}
use Rattle.hex_text.specs.declared.text.HexFault.{HexFault}
use Rattle.hex_text.specs.declared.text.HexFault.TheVariants.{Nothing, NoDigit, LoneDigit, BehindDash, Memory}

-- a column, and what is wrong there
abbrev pub at_column : ℕ → String → List ℕ
at_column column wrong = codes "column " ++ (decimal column ++ codes wrong)

-- the words of a fault
abbrev pub fault_text : HexFault → List ℕ
fault_text Nothing = codes "nothing there: no octets are written -"
fault_text (NoDigit column) = at_column column ": not a hex digit"
fault_text (LoneDigit column) = at_column column ": one hex digit, where an octet has two"
fault_text (BehindDash column) = at_column column ": more text behind the dash"
fault_text Memory = codes "out of memory"
