use Rattle.std.proofs.Common.{vec_items}
use Rattle.hex_text.proofs.Runs.{Sofar}
use Rattle.hex_text.proofs.text.parse.Given as goal

abbrev pub invariant-loop-place : goal.invariant-loop-place
invariant-loop-place l = Sofar l.text (vec_items l.octets) l.place l.stage
