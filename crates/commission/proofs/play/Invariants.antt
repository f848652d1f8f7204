use Rattle.changes.specs.Standing.{Standing}
use Rattle.plan.specs.States.{lent_of, rule_of}
use Rattle.commission.proofs.play.Given as goal

-- the plan stands after every line
abbrev pub invariant-loop-line : goal.invariant-loop-line
invariant-loop-line g l = Standing g.B.Board.build (g.R.Rule.order (rule_of l.state)) (lent_of l.state).now
