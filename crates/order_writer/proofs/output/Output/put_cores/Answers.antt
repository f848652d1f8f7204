use Rattle.std.proofs.Common.{ℕ, [], ◌∷◌, subst, arith}
use Rattle.records.specs.declared.kind.Kind.TheVariants.{Core}
use Rattle.records.specs.Wire.{word}
use Rattle.orders.specs.Encoding.{line, core_line}
use Rattle.order_writer.specs.Outputs.{Continued}
use Rattle.order_writer.proofs.Pasting.{continued-each}
use Rattle.order_writer.proofs.Counts.{few_on, cores-few}
use Rattle.order_writer.proofs.output.Output.put_cores.Goals as goal

pub put_core-requires : goal.put_core-requires
put_core-requires g c =
    let m = g.B.Board.build.meaning c.args.board.now in
    few_on 1 16 3000 c.requires.few c.loop-core.invariant (omega (arith, cores-few c.loop-core.core m.capacity, c.requires.good.sound.few_cores, c.cores-core-end.ensures, c.loop-core-test.true)) (omega arith)

pub loop-core-preserved : goal.loop-core-preserved
loop-core-preserved g c =
    let m = g.B.Board.build.meaning c.args.board.now in
    let i = c.loop-core.core in
    let P : ℕ → Type 0 = λ n. Continued c.loop-core.self c.put_core.new.self (line Core (i ∷ word n) ∷ []) in
    continued-each i (core_line m.capacity) c.loop-core.invariant (subst P c.capacity.ensures c.put_core.ensures)
