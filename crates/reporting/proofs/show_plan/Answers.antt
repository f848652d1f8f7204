use Rattle.std.proofs.Common.{string_bytes}
use Rattle.std.proofs.lemmas.Result.{IfOk-weaker}
use Rattle.tasks.specs.Table.{rows}
use Rattle.reporting.proofs.Shows.{plan-shown}
use Rattle.reporting.proofs.show_plan.Goals as goal

pub returns : goal.returns
returns g c =
    let b = g.B.Board in
    let planned = c.make-plan.ensures.planned in
    IfOk-weaker c.report_text.result _ _
    (λ text reads. plan-shown (g.R.Rule.order c.args.rule) (b.build.meaning c.args.board.now) (b.build.meaning c.make-plan.result.board.now) (rows c.args.tasks.now) c.totals-totals.result (string_bytes text) c.free_slots-free.result
    planned.standing.good.sound c.args.tasks.now.sound c.requires.good.sound.few_tasks c.requires.listed planned.order planned.standing.fairest c.totals-totals.ensures c.free_slots-free.ensures reads)
    c.report_text.ensures
