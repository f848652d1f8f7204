use Rattle.std.proofs.Common.{◌≤◌, arith}
use Rattle.orders.specs.Encoding.{task_pairs}
use Rattle.order_writer.specs.Outputs.{amounts_of}
use Rattle.order_writer.proofs.Pasting.{continued-each}
use Rattle.order_writer.proofs.Counts.{few_on, all-pairs-few}
use Rattle.order_writer.proofs.output.Output.put_pairs.Goals as goal

pub put_task_pairs-requires-clause-few : goal.put_task_pairs-requires-clause-few
put_task_pairs-requires-clause-few g c =
    let m = g.B.Board.build.meaning c.args.board.now in
    let cores : m.cores ≤ 16 = c.requires.good.sound.few_cores in
    few_on 1105 1024 2500 c.requires.few c.loop-task.invariant
    (omega (arith, all-pairs-few c.args.kind c.loop-task.task m.cores (amounts_of c.args.kind m) cores, c.requires.good.sound.few_tasks, c.tasks-task-end.ensures, c.loop-task-test.true)) (omega arith)

pub loop-task-preserved : goal.loop-task-preserved
loop-task-preserved g c =
    let m = g.B.Board.build.meaning c.args.board.now in
    continued-each c.loop-task.task (task_pairs c.args.kind m.cores (amounts_of c.args.kind m)) c.loop-task.invariant c.put_task_pairs.ensures
