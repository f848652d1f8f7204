use Rattle.std.proofs.Common.{ℕ, ◌++◌, length, sym, subst, arith}
use Rattle.records.specs.declared.kind.Kind.TheVariants.{Need, Slots}
use Rattle.tasks.specs.Table.{rows}
use Rattle.orders.specs.Encoding.{each, head_line, core_line, task_line, pair_lines}
use Rattle.order_writer.specs.Outputs.{Continued}
use Rattle.order_writer.proofs.Pasting.{continued-on}
use Rattle.order_writer.proofs.Counts.{few-more, after-head, after-cores, after-tasks, after-pairs}
use Rattle.order_writer.proofs.output.Output.put_order.Goals as goal

pub put_tasks-requires : goal.put_tasks-requires
put_tasks-requires g c =
    let m = g.B.Board.build.meaning c.args.order.now.board.now in
    after-cores m.cores m.capacity c.requires.good.sound.few_cores (after-head c.args.order.now.letter m.tasks m.cores c.requires.fresh c.put_head.ensures) c.put_cores.ensures

pub put_pairs-requires-clause-few : goal.put_pairs-requires-clause-few
put_pairs-requires-clause-few g c =
    let m = g.B.Board.build.meaning c.args.order.now.board.now in
    let cores = after-cores m.cores m.capacity c.requires.good.sound.few_cores (after-head c.args.order.now.letter m.tasks m.cores c.requires.fresh c.put_head.ensures) c.put_cores.ensures in
    few-more 81 1105 (omega arith) (after-tasks c.args.order.now.tasks.now cores c.put_tasks.ensures)

pub put_pairs-requires-2-clause-few : goal.put_pairs-requires-2-clause-few
put_pairs-requires-2-clause-few g c =
    let m = g.B.Board.build.meaning c.args.order.now.board.now in
    let s = c.requires.good.sound in
    let cores = after-cores m.cores m.capacity s.few_cores (after-head c.args.order.now.letter m.tasks m.cores c.requires.fresh c.put_head.ensures) c.put_cores.ensures in
    after-pairs 81 Need m.tasks m.cores m.need s.few_tasks s.few_cores (after-tasks c.args.order.now.tasks.now cores c.put_tasks.ensures) c.put_pairs.ensures

pub returns : goal.returns
returns g c =
    let m = g.B.Board.build.meaning c.args.order.now.board.now in
    let s = c.requires.good.sound in
    let rs = rows c.args.order.now.tasks.now in
    let cores = after-cores m.cores m.capacity s.few_cores (after-head c.args.order.now.letter m.tasks m.cores c.requires.fresh c.put_head.ensures) c.put_cores.ensures in
    let named = after-tasks c.args.order.now.tasks.now cores c.put_tasks.ensures in
    let needs = after-pairs 81 Need m.tasks m.cores m.need s.few_tasks s.few_cores named c.put_pairs.ensures in
    let P : ℕ → Type 0 = λ n. Continued c.args.self.now c.put_pairs-2.new.self
    (head_line c.args.order.now.letter n m.cores ++ (each m.cores (core_line m.capacity) ++ (each (length rs) (task_line rs) ++ (pair_lines Need n m.cores m.need ++ pair_lines Slots n m.cores m.held)))) in
    record {
      lines = subst P (sym c.requires.sizes)
          (continued-on c.put_head.ensures (continued-on c.put_cores.ensures (continued-on c.put_tasks.ensures (continued-on c.put_pairs.ensures c.put_pairs-2.ensures))));
      few = after-pairs 1105 Slots m.tasks m.cores m.held s.few_tasks s.few_cores needs c.put_pairs-2.ensures;
    }
