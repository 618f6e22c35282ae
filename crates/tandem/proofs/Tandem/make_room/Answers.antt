use Rattle.std.proofs.Common.{replicate, lit≤}
use Rattle.tandem.proofs.Rows.{room_moved}
use Rattle.tandem.proofs.Tandem.make_room.Goals as goal

pub returns : goal.returns
returns g c =
    room_moved c.args.end c.in_ok-room.field-0 c.in_ok-room-2.field-0 c.in_ok-size.size c.put.result (replicate 268 0) c.take.new.buffer
    (g.A.Route.ways c.args.self.now.first) (g.B.Route.ways c.args.self.now.second) (g.A.Route.ways c.take.new.self) (g.B.Route.ways c.put.new.self)
    (g.met.A.Route.sound c.args.self.now.first) c.in_ok-room.ensures c.if-branch-gt0.false c.in_ok-room-2.ensures c.if-branch-eq0.false
    (lit≤ tt) c.in_ok-size.ensures.answer c.take.ensures.filled c.take.ensures.after c.put.ensures.answer c.put.ensures.after
