-- The lines of messages and refusals.
use Rattle.std.specs.Prelude.{ℕ, List, ◌++◌, Ok, Err, codes, decimal, Result}
use Prim.Native.String.{String}
use Rattle.message.specs.Layout.{more_octet}
use Rattle.message.specs.Refusals.{number, layer, layer_number}
use Rattle.message.specs.Content.{Content, connection_request, connection_confirm, connection_refused, released, release_complete, data_form_1, data_form_2, data_acknowledgement, reset_request, reset_confirm, error}
use Rattle.message.specs.declared.fault.Fault.{Fault}
use Rattle.hex_text.specs.Capitals.{capitals}

-- the last field: a name and a number
abbrev pub last : String → ℕ → List ℕ
last name n = codes name ++ decimal n

-- a field, a name and a number, in front of the others
abbrev pub field : String → ℕ → List ℕ → List ℕ
field name n others = codes name ++ (decimal n ++ others)

-- the line of a message: its name and its fields, with the data in capital hex digits
abbrev pub line : Content → List ℕ
line (connection_request source class credit subsystem) = field "CR source=" source (field " class=" class (field " subsystem=" subsystem (last " credit=" credit)))
line (connection_confirm destination source class credit) = field "CC destination=" destination (field " source=" source (field " class=" class (last " credit=" credit)))
line (connection_refused destination cause) = field "CREF destination=" destination (last " cause=" cause)
line (released destination source cause) = field "RLSD destination=" destination (field " source=" source (last " cause=" cause))
line (release_complete destination source) = field "RLC destination=" destination (last " source=" source)
line (data_form_1 destination more octets) = field "DT1 destination=" destination (field " more=" (more_octet more) (codes " data=" ++ capitals octets))
line (data_form_2 destination send receive more octets) =
    field "DT2 destination=" destination (field " ps=" send (field " pr=" receive (field " more=" (more_octet more) (codes " data=" ++ capitals octets))))
line (data_acknowledgement destination receive credit) = field "AK destination=" destination (field " pr=" receive (last " credit=" credit))
line (reset_request destination source cause) = field "RSR destination=" destination (field " source=" source (last " cause=" cause))
line (reset_confirm destination source) = field "RSC destination=" destination (last " source=" source)
line (error destination cause) = field "ERR destination=" destination (last " cause=" cause)

-- the line of a refusal
abbrev pub refusal_line : Fault → List ℕ
refusal_line fault = field "refused number=" (number fault.refusal) (field " layer=" (layer_number (layer fault.refusal)) (last " place=" fault.place))

-- the line of what octets are read as
abbrev pub answer_line : Result Content Fault → List ℕ
answer_line (Ok content) = line content
answer_line (Err fault) = refusal_line fault
