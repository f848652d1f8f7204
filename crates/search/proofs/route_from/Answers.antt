use Rattle.std.proofs.Common.{arith}
use Rattle.board.specs.Meaning.{Meaning}
use Rattle.search.proofs.Founds.{shown-route}
use Rattle.search.proofs.route_from.Goals as goal

pub returns-clause-searched : goal.returns-clause-searched
returns-clause-searched g c =
    let m : Meaning = g.B.Board.build.meaning c.args.board.now in
    let w = c.write_route-count.ensures in
    rw c.task_at.ensures (shown-route (g.R.Rule.order c.args.rule.now) (g.R.Rule.lawful c.args.rule.now) m c.requires.good.sound c.args.gainer _ _ c.args.steps.now _ _ c.in-Some.ensures.sought w.chain (omega arith) w.few w.rest)
