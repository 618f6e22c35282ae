use Rattle.std.proofs.Common.{arith}
use Rattle.tandem.proofs.Rows.{lose_first}
use Rattle.tandem.proofs.TandemBenchRoute.lose.Goals as goal

pub returns-clause-after : goal.returns-clause-after
returns-clause-after g c =
    (lose_first c.args.end c.args.position c.in_ok-older.older c.lose.result c.lose-2.result c.is_ok.result
    (g.A.Route.ways c.args.self.now.first) (g.B.Route.ways c.args.self.now.second) (g.A.Route.ways c.lose-2.new.self) (g.B.Route.ways c.lose.new.self)
    (omega arith) c.in_ok-older.ensures c.lose.ensures.answer c.lose.ensures.after c.is_ok.ensures.value c.if-is_ok.false
    c.lose-2.ensures.answer c.lose-2.ensures.after).1
