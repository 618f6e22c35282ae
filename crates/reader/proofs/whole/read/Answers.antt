use Rattle.std.proofs.Common.{◌≡◌, true, false, length, Err, sym, ap, ◌∙◌, rules}
use Rattle.std.proofs.lemmas.Result.{err_from_is_err_and}
use Rattle.message.specs.Content.{between}
use Rattle.message.specs.Meaning.{means}
use Rattle.reader.specs.Window.{Window}
use Rattle.reader.specs.Reading.{message_of, value}
use Rattle.reader.proofs.Agree.{agrees}
use Rattle.reader.proofs.Limits.{read_limits}
use Rattle.reader.proofs.Types.{bad_length, by_type, no_type}
use Rattle.reader.proofs.whole.read.Goals as goal

pub returns-then-not-contains : goal.returns-then-not-contains
returns-then-not-contains c =
    let wrong : between 1 268 (length c.args.octets.now) ≡ false = search rules in
    let says = ap Err c.at.ensures ∙ sym (bad_length c.args.octets.now wrong) in
    record { says = says; laid_out = agrees c.args.octets.now _ says; fits = tt }

pub returns-in_err-kind : goal.returns-in_err-kind
returns-in_err-kind c =
    let right : between 1 268 (length c.args.octets.now) ≡ true = search rules in
    let p = err_from_is_err_and c.from_residual.result c.from_residual.ensures.1 in
    let none = no_type _ (record { octets = c.args.octets.now; place = 1 }) c.in_err-kind.ensures.1 in
    let says = ap Err c.in_err-kind.ensures.0 ∙ sym (by_type c.args.octets.now right ∙ ap value none) in
    rw (p.1, p.2) (record { says = says; laid_out = agrees c.args.octets.now _ says; fits = tt })

pub returns : goal.returns
returns c =
    let right : between 1 268 (length c.args.octets.now) ≡ true = search rules in
    let w : Window = record { octets = c.args.octets.now; place = 1 } in
    let says = c.message.ensures ∙ ap (λ t. value (message_of t w)) c.in_ok-kind.ensures ∙ sym (by_type c.args.octets.now right) in
    record {
      says = says;
      laid_out = agrees c.args.octets.now (means c.message.result) says;
      fits = read_limits c.message.result c.args.octets.now (λ i. (c.type_inv.octets i).fits) says;
    }
