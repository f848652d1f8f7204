use Rattle.std.proofs.Common.{ℕ, List, subst, arith}
use Rattle.orders.specs.Encoding.{Line, pair_line}
use Rattle.order_writer.specs.Outputs.{Continued, amounts_of}
use Rattle.order_writer.proofs.Pasting.{continued-each}
use Rattle.order_writer.proofs.Counts.{few_on, pairs-few}
use Rattle.order_writer.proofs.output.Output.put_task_pairs.Goals as goal

pub put_pair-requires : goal.put_pair-requires
put_pair-requires g c =
    let m = g.B.Board.build.meaning c.args.board.now in
    few_on 2500 16 3000 c.requires.few c.loop-core.invariant
    (omega (arith, pairs-few c.args.kind c.loop-core.core (amounts_of c.args.kind m) c.args.task, c.requires.good.sound.few_cores, c.cores-core-end.ensures, c.loop-core-test.true)) (omega arith)

pub loop-core-preserved : goal.loop-core-preserved
loop-core-preserved g c =
    let m = g.B.Board.build.meaning c.args.board.now in
    let kind = c.args.kind in
    let task = c.args.task in
    let i = c.loop-core.core in
    let P : ℕ → Type 0 = λ n. Continued c.loop-core.self c.put_pair.new.self (pair_line kind task i n) in
    let lines : ℕ → List Line = λ core. pair_line kind task core (amounts_of kind m task core) in
    continued-each i lines c.loop-core.invariant (subst P c.amount_of-amount.ensures c.put_pair.ensures)
