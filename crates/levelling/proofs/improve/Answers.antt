use Rattle.board.specs.Meaning.{Meaning}
use Rattle.levelling.proofs.Improvements.{route-better, taken-better}
use Rattle.levelling.proofs.improve.Goals as goal

pub returns-in-Some-clause-improved : goal.returns-in-Some-clause-improved
returns-in-Some-clause-improved g c =
    let b = g.B.Board in
    let m : Meaning = b.build.meaning c.args.board.now in
    route-better (g.R.Rule.order c.args.rule.now) (g.R.Rule.lawful c.args.rule.now) m c.requires.sound (b.build.meaning c.exchange.new.board) _ _ _ c.in-Some.ensures c.exchange.ensures.passed

pub returns-clause-improved : goal.returns-clause-improved
returns-clause-improved g c =
    let b = g.B.Board in
    let m : Meaning = b.build.meaning c.args.board.now in
    taken-better (g.R.Rule.order c.args.rule.now) (g.R.Rule.lawful c.args.rule.now) m c.requires.sound (b.build.meaning c.set_held.new.self) _ _ _ c.in_ok-core.ensures.free_pair c.held-held.ensures c.set_held.ensures.left
