use Rattle.std.proofs.Common.{Bool, List, sym, subst, arith}
use Rattle.fairness.specs.Laws.{Comparison}
use Rattle.board.specs.Meaning.{Meaning}
use Rattle.search.specs.Gains.{SafeFlags}
use Rattle.search.proofs.Urgency.{flagged}
use Rattle.search.proofs.flag_safe.Goals as goal
use Rattle.search.proofs.flag_safe.Goals.{then-search-task+then-as_urgent, else-search-task}

pub loop-task-preserved : goal.loop-task-preserved
loop-task-preserved g c =
    let m : Meaning = g.B.Board.build.meaning c.args.board.now in
    let compare : Comparison = g.R.Rule.order c.args.rule.now in
    let P : List Bool → Type 0 = SafeFlags compare m in
    elim c.if-search-task.branch [
      | then-search-task+then-as_urgent w ↦
          subst P (sym w.safe-is) (flagged compare m c.loop-task.safe c.loop-task.task c.loop-task.invariant
          (λ none. (c.requires.vain none).others c.loop-task.task (omega (arith, c.loop-task-test.true, c.tasks-task-end.ensures)) w.if-search-task.true
          (cc (w.if-as_urgent.ensures, c.share_of-share.ensures.is, w.share_of.ensures.is))))
      | else-search-task w ↦ subst P (sym w.safe-is) c.loop-task.invariant
    ]
