use Rattle.std.proofs.Common.{sym, ◌∙◌}
use Rattle.board.specs.Meaning.{Meaning, with_need}
use Rattle.changes.specs.Changes.{plan_need}
use Rattle.changes.proofs.Taking.{need-taken}
use Rattle.changes.proofs.Replanning.{need-same, plan-rests}
use Rattle.changes.proofs.set_need.Goals as goal

pub returns-else-need : goal.returns-else-need
returns-else-need g c =
    let b = g.B.Board in
    let a = c.args.board.now in
    let m : Meaning = b.build.meaning a in
    let t = need-taken m c.args.task c.args.core c.args.need c.in_ok-test_need.ensures in
    plan-rests b.build (g.R.Rule.order c.args.rule) a (plan_need m c.args.task c.args.core c.args.need) (with_need m c.args.task c.args.core c.args.need)
    t.comes (need-same m c.args.task c.args.core c.args.need (sym c.if-need.false ∙ c.need.ensures)) c.requires
