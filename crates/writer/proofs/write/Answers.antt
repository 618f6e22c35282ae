use Rattle.std.proofs.Common.{◌≡◌, true, take, sym, refl, ap, ◌∙◌}
use Rattle.std.proofs.lemmas.List.{take_at}
use Rattle.message.specs.Content.{within}
use Rattle.message.specs.Layout.{layout}
use Rattle.message.specs.Meaning.{meaning}
use Rattle.reader.specs.Reading.{reading}
use Rattle.writer.proofs.Back.{reads_back}
use Rattle.writer.proofs.write.Goals as goal

pub returns-clause-reads_back : goal.returns-clause-reads_back
returns-clause-reads_back c =
    let m = meaning c.args.message in
    let fits : within m ≡ true = sym c.if-not-fits.ensures in
    let front : take c.lay_out.result c.lay_out.new.buffer ≡ layout m = rw (c.lay_out.ensures.size, c.lay_out.ensures.after) (take_at _ _ _ refl) in
    ap reading front ∙ reads_back m fits
