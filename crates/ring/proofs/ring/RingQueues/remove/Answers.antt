use Rattle.std.proofs.Common.{◌<◌, [], get_or, sym, ap, ◌∙◌, arith}
use Rattle.route.specs.Ends.{end_number}
use Rattle.route.specs.Stored.{message_of}
use Rattle.route.proofs.Calls.{queue_of, two_ends}
use Rattle.ring.specs.Rounds.{turns_of}
use Rattle.ring.specs.Turns.{message_at, queue}
use Rattle.ring.specs.Sound.{at_turns}
use Rattle.ring.proofs.Writes.{counted, at_read}
use Rattle.ring.proofs.ring.RingQueues.remove.Goals as goal

pub place-at-requires : goal.place-at-requires
place-at-requires c =
    let r = c.args.self.now in
    omega (arith, c.queued-count.ensures, counted r c.args.end, r.within (end_number c.args.end) (two_ends c.args.end))

pub returns-clause-message : goal.returns-clause-message
returns-clause-message c =
    let r = c.args.self.now in
    let e = end_number c.args.end in
    let l = r.slots.items in
    let t = turns_of r.ends e in
    let k = c.args.position in
    let some : k < t.count = omega (arith, counted r c.args.end, c.queued-count.ensures, c.if-position-count.false) in
    ap message_of c.index-slot.ensures ∙ at_read l c.place-at.result c.index-slot.result.now (omega (arith, c.place-at.ensures.below, r.slots.ok.0))
    ∙ ap (message_at l) c.place-at.ensures.value ∙ sym (at_turns l e r.capacity t.oldest t.count k some) ∙ ap (λ q. get_or q k []) (sym (queue_of c.args.end (queue r) r.capacity))
