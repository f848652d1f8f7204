use Rattle.board.proofs.Going.{rearranged-on}
use Rattle.levelling.proofs.Levelling.{improved-on, levelled-at}
use Rattle.levelling.proofs.Measure.{better-falls}
use Rattle.levelling.proofs.level.Goals as goal
use Rattle.levelling.proofs.level.Goals.{in-Passed, in_default-improvement}

pub returns-in_default : goal.returns-in_default
returns-in_default g c =
    let end = c.in_default.ensures in
    levelled-at g.B.Board.build (g.R.Rule.order c.args.rule) _ _ _ (g.R.Rule.lawful c.args.rule) c.loop.invariant end.went end.improved

pub loop-preserved : goal.loop-preserved
loop-preserved g c =
    let b = g.B.Board.build in
    let one = c.in-Some.ensures in
    let on = improved-on b (g.R.Rule.order c.args.rule) _ _ _ c.loop.invariant one.went one.improved in
    elim c.match-improvement.branch [
      | in-Passed w ↦ rw w.board-is (rearranged-on b _ _ _ on w.pass_more.ensures)
      | in_default-improvement w ↦ rw w.board-is on
    ]

pub loop-improvement-smaller : goal.loop-improvement-smaller
loop-improvement-smaller g c =
    let one = c.in-Some-improve.ensures in
    better-falls (g.R.Rule.order c.args.rule) (g.R.Rule.lawful c.args.rule) _ _ c.loop-improvement.invariant.went.good.sound one.went.good.sound one.improved

pub loop-improvement-preserved : goal.loop-improvement-preserved
loop-improvement-preserved g c =
    let one = c.in-Some-improve.ensures in
    improved-on g.B.Board.build (g.R.Rule.order c.args.rule) _ _ _ c.loop-improvement.invariant one.went one.improved

pub returns : goal.returns
returns g c =
    let end = c.in_default-improve.ensures in
    levelled-at g.B.Board.build (g.R.Rule.order c.args.rule) _ _ _ (g.R.Rule.lawful c.args.rule) c.loop-improvement.invariant end.went end.improved
