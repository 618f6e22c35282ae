use Rattle.std.proofs.Common.{◌∙◌, sym, ap}
use Rattle.route.specs.Ends.{end_number}
use Rattle.pile.specs.Numbers.{waiting}
use Rattle.pile.proofs.Means.{counted}
use Rattle.pile.proofs.store.Pile.queued.Goals as goal

pub returns : goal.returns
returns c = c.count_toward.ensures ∙ ap (waiting (end_number c.args.end)) c.deref.ensures.value ∙ sym (counted c.args.self.now c.args.end)
