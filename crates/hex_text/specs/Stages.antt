-- What one character does to a reading of hex text, and where a text may end.
use Rattle.std.specs.Prelude.{ℕ, ◌+◌, ◌*◌, cond, Ok, Err, Result, ◌==◌}
use Rattle.hex_text.specs.declared.text.HexFault.{HexFault}
use Rattle.hex_text.specs.declared.text.HexFault.TheVariants.{Nothing, LoneDigit, BehindDash}
use Rattle.hex_text.specs.declared.stage.Stage.{Stage}
use Rattle.hex_text.specs.declared.stage.Stage.TheVariants.{Start, Dash, Half, Octet, Gap}
use Rattle.hex_text.specs.Digits.{blank, gap, digit_at, second_at}

-- an octet begins with a digit in column n
abbrev pub half : ℕ → Result ℕ HexFault → Result Stage HexFault
half n (Ok high) = Ok (Half high n)
half n (Err fault) = Err fault

-- an octet ends with a digit
abbrev pub whole : ℕ → Result ℕ HexFault → Result Stage HexFault
whole high (Ok low) = Ok (Octet (16 * high + low))
whole high (Err fault) = Err fault

-- the stage behind the character c in column n
abbrev pub next_stage : Stage → ℕ → ℕ → Result Stage HexFault
next_stage Start c n = cond (blank c) (Ok Start) (cond (c == 45) (Ok Dash) (half n (digit_at n c)))
next_stage Dash c n = cond (blank c) (Ok Dash) (Err (BehindDash n))
next_stage (Half high m) c n = whole high (second_at m n c)
next_stage (Octet octet) c n = cond (gap c) (Ok Gap) (half n (digit_at n c))
next_stage Gap c n = cond (gap c) (Ok Gap) (half n (digit_at n c))

-- whether a text may end at a stage
abbrev pub last_stage : Stage → Result (Unit {0}) HexFault
last_stage Start = Err Nothing
last_stage Dash = Ok tt
last_stage (Half high m) = Err (LoneDigit m)
last_stage (Octet octet) = Ok tt
last_stage Gap = Ok tt
