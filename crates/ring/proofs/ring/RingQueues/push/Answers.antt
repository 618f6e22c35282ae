use Rattle.std.proofs.Common.{◌≡◌, ◌+◌, ◌<◌, ◌≤◌, [], ◌∷◌, ◌++◌, length, set, refl, ap, ◌∙◌, arith}
use Rattle.route.specs.Ends.{end_number}
use Rattle.route.specs.Stored.{message_of}
use Rattle.route.proofs.Calls.{two_ends}
use Rattle.ring.specs.Rounds.{place, turns_of}
use Rattle.ring.proofs.Writes.{counted, turns_put, turns_other, written}
use Rattle.ring.proofs.ring.RingQueues.push.Goals as goal

pub returns-clause-added : goal.returns-clause-added
returns-clause-added c =
    let r = c.args.self.now in
    let e = end_number c.args.end in
    let n = r.capacity in
    let l = r.slots.items in
    let x = c.args.slot in
    let t = turns_of r.ends e in
    let two = two_ends c.args.end in
    let i = c.index.ensures.value in
    let k : c.queued-count.result ≡ t.count = c.queued-count.ensures ∙ counted r c.args.end in
    let p : c.place-at.result ≡ place e n t.oldest t.count = c.place-at.ensures.value ∙ ap (place e n t.oldest) k in
    let room : t.count < n = omega (arith, c.if-count-self.false, k) in
    let space : n + n ≤ length l = omega (arith, r.halves, r.slots.ok.0) in
    written c.args.end (λ q. q ++ (message_of x ∷ [])) r r (set l c.place-at.result x) c.index.result _ i (omega arith) refl
    (rw (i, p, k) (turns_put l x e n t.oldest t.count two (r.inside e two) room space))
    (λ d h z. rw p (turns_other l x d e n (turns_of r.ends d).oldest t.oldest (turns_of r.ends d).count t.count h two z (r.inside d h) (r.inside e two) (r.within d h) room))
