use Rattle.std.proofs.Common.{◌≡◌, ℕ, List, [], ◌∷◌, subst, arith}
use Rattle.records.specs.declared.kind.Kind.TheVariants.{Task}
use Rattle.tasks.specs.Table.{rows, weight_in, name_in}
use Rattle.tasks.proofs.Steps.{rows_few}
use Rattle.orders.specs.Encoding.{line, task_line}
use Rattle.order_writer.specs.Outputs.{Continued}
use Rattle.order_writer.proofs.Pasting.{continued-each}
use Rattle.order_writer.proofs.Counts.{few_on, tasks-few}
use Rattle.order_writer.proofs.output.Output.put_tasks.Goals as goal

pub put_task-requires-clause-few : goal.put_task-requires-clause-few
put_task-requires-clause-few c =
    few_on 17 64 3000 c.requires c.loop-task.invariant (omega (arith, tasks-few c.loop-task.task c.args.tasks.now, rows_few c.args.tasks.now, c.len-task-end.ensures, c.loop-task-test.true)) (omega arith)

pub loop-task-preserved : goal.loop-task-preserved
loop-task-preserved c =
    let i = c.loop-task.task in
    let P : List ℕ → Type 0 = λ body. Continued c.loop-task.self c.put_task.new.self (line Task body ∷ []) in
    let rs = rows c.args.tasks.now in
    let said : ◌≡◌ {A = List ℕ} (i ∷ c.weight.result ∷ c.name.result.now) (i ∷ weight_in rs i ∷ name_in rs i) = λ j. i ∷ c.weight.ensures j ∷ c.name.ensures.name j in
    continued-each i (task_line rs) c.loop-task.invariant (subst P said c.put_task.ensures)
