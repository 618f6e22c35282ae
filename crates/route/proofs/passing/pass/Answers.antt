use Rattle.std.proofs.Common.{[], ◌∷◌, ◌++◌, replicate, sym, ap, ◌∙◌, lit≤}
use Rattle.std.proofs.lemmas.Slice.Eq.{slice_eq-Decides}
use Rattle.std.proofs.lemmas.Bool.Decides.{Decides-eqb}
use Rattle.route.specs.Ways.{oldest}
use Rattle.route.proofs.Laws.{laws}
use Rattle.route.proofs.Through.{taken_front}
use Rattle.route.proofs.passing.pass.Goals as goal

pub returns-in_err-put-clause-laws : goal.returns-in_err-put-clause-laws
returns-in_err-put-clause-laws g c = laws

pub returns-clause-answer : goal.returns-clause-answer
returns-clause-answer g c =
    let w = g.R.Route.ways c.args.route.now in
    let same = slice_eq-Decides Decides-eqb _ _ _ c.eq.ensures in
    let front = taken_front c.args.end c.in_ok-size.size c.args.message.now (replicate 268 0) c.take.new.buffer w (g.R.Route.ways c.put.new.self)
    (sym c.in_ok-put.ensures.answer) (lit≤ tt) c.put.ensures.after c.in_ok-size.ensures.answer c.take.ensures.filled in
    (sym c.in_ok-put.ensures.answer, ((λ h. sym front ∙ same.0 h), (λ h. same.1 (front ∙ h))))

pub returns-clause-through : goal.returns-clause-through
returns-clause-through g c =
    let w = g.R.Route.ways c.args.route.now in
    let m = c.args.message.now in
    let same = slice_eq-Decides Decides-eqb _ _ _ c.eq.ensures in
    let front = taken_front c.args.end c.in_ok-size.size m (replicate 268 0) c.take.new.buffer w (g.R.Route.ways c.put.new.self)
    (sym c.in_ok-put.ensures.answer) (lit≤ tt) c.put.ensures.after c.in_ok-size.ensures.answer c.take.ensures.filled in
    λ empty. same.1 (front ∙ ap (λ l. oldest (l ++ (m ∷ []))) empty)

pub returns-clause-laws : goal.returns-clause-laws
returns-clause-laws g c = laws
