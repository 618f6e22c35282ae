-- Octets are written in order, two digits each.
use Rattle.std.proofs.Common.{◌<◌, get_or, is_ok, ap, arith}
use Rattle.std.proofs.lemmas.Fmt.{hex_byte}
use Rattle.std.proofs.lemmas.Grind.{put_two}
use Rattle.hex_text.proofs.Writing.{capitals_more}
use Rattle.hex_text.proofs.octets.HexDisplay.fmt.Goals as goal

pub loop-octet-preserved : goal.loop-octet-preserved
loop-octet-preserved g c = λ plain.
    let octets = c.args.self.now.0.now in
    let before = c.loop-octet.invariant plain in
    let small : get_or octets c.loop-octet.octet-index 0 < 256 = omega arith in
    let writes = rw (c.laid_out.ensures, c.in_radix.ensures, hex_byte) at c.write.ensures.writes in
    put_two g.W.Write.write_str_gives _ _ _ _ _ _ before (writes before.plain (ap is_ok c.in_ok-write.was)) (capitals_more octets c.loop-octet.octet-index (omega arith))
