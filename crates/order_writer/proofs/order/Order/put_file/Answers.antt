use Rattle.std.proofs.Common.{◌≡◌, ℕ, List, [], ◌∷◌, ◌++◌, length, subst, ◌∙◌, arith}
use Rattle.records.specs.declared.kind.Kind.TheVariants.{End}
use Rattle.records.specs.Wire.{word}
use Rattle.tasks.specs.Table.{rows}
use Rattle.orders.specs.Encoding.{Line, line, bytes_of, order_lines}
use Rattle.order_writer.specs.Writing.{Put}
use Rattle.order_writer.proofs.Pasting.{continued-on, put-there}
use Rattle.order_writer.proofs.order.Order.put_file.Goals as goal

pub returns : goal.returns
returns g c =
    let m = g.B.Board.build.meaning c.args.self.now.board.now in
    let lines : List Line = order_lines c.args.self.now.letter m.cores m.capacity (rows c.args.self.now.tasks.now) m.need m.held in
    let count : c.put_order.new.self.records ≡ length lines = omega (arith, c.put_order.ensures.lines.counted) in
    let whose = c.put_end.ensures.whose ∙ c.put_order.ensures.lines.whose in
    let P : ℕ → Type 0 = λ n. Put c.args.out.now c.put_end.new.self.out.now 0 c.put_end.new.self.bytes (bytes_of (lines ++ line End (word n) ∷ [])) in
    put-there (grind arith) (subst P count (continued-on c.put_order.ensures.lines c.put_end.ensures).bytes)
