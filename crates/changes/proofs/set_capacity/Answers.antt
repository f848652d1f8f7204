use Rattle.std.proofs.Common.{sym, ◌∙◌}
use Rattle.board.specs.Meaning.{Meaning, with_capacity}
use Rattle.changes.specs.Changes.{plan_capacity}
use Rattle.changes.proofs.Taking.{capacity-taken}
use Rattle.changes.proofs.Replanning.{capacity-same, plan-rests}
use Rattle.changes.proofs.set_capacity.Goals as goal

pub returns-else-capacity : goal.returns-else-capacity
returns-else-capacity g c =
    let b = g.B.Board in
    let a = c.args.board.now in
    let m : Meaning = b.build.meaning a in
    let t = capacity-taken m c.args.core c.args.capacity c.in_ok-test_capacity.ensures in
    plan-rests b.build (g.R.Rule.order c.args.rule) a (plan_capacity m c.args.core c.args.capacity) (with_capacity m c.args.core c.args.capacity)
    t.comes (capacity-same m c.args.core c.args.capacity (sym c.if-capacity.false ∙ c.capacity.ensures)) c.requires
