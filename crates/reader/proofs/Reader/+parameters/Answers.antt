use Rattle.std.proofs.Common.{◌≡◌, ap, ◌∙◌, rules}
use Rattle.reader.proofs.Steps.{parameter_place, parameter_more}
use Rattle.reader.proofs.Reader.+parameters.Goals as goal

pub parameters-requires : goal.parameters-requires
parameters-requires t c =
    let at : c.self.inside.at ≡ c.args.self.now.place = ap (λ w. w.place) c.self.view_is in
    let part = rw at at c.in_ok-part.ensures in
    let known = rw at at c.in_ok-known.ensures in
    let p = parameter_place c.args.due c.args.found c.in_ok-known.known c.args.self.now c.octet.new.self c.counted.new.self
    c.in_ok-name.name c.in_ok-part.part.now
    c.in_ok-name.ensures c.if-name-eq-END_OF_PARAMETERS.false part known in
    search rules

pub returns : goal.returns
returns t c =
    let at : c.self.inside.at ≡ c.args.self.now.place = ap (λ w. w.place) c.self.view_is in
    let part = rw at at c.in_ok-part.ensures in
    let known = rw at at c.in_ok-known.ensures in
    c.parameters.ensures
    ∙ parameter_more c.args.due c.args.found c.in_ok-known.known c.args.self.now c.octet.new.self c.counted.new.self
    c.in_ok-name.name c.in_ok-part.part.now
    c.in_ok-name.ensures c.if-name-eq-END_OF_PARAMETERS.false part known
