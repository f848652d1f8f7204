use Rattle.std.proofs.Common.{◌≤◌, sym, subst, arith}
use Rattle.tasks.specs.Table.{rows}
use Rattle.tasks.proofs.Steps.{rows_few, weights-all, sound-weight}
use Rattle.tasks.proofs.table.TaskTable.weights.Goals as goal

pub returns-clause-each : goal.returns-clause-each
returns-clause-each c =
    weights-all c.loop-task.weight-items (rows c.args.self.now) (omega arith) (rows_few c.args.self.now) (λ t h. c.loop-task.invariant t (omega arith))

pub returns-clause-fit : goal.returns-clause-fit
returns-clause-fit c =
    λ t. subst (λ w. (1 ≤ w) × (w ≤ 100)) (sym (returns-clause-each c t)) (sound-weight (rows c.args.self.now) t c.args.self.now.sound)
