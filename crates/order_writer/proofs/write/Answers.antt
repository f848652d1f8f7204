use Rattle.std.proofs.Common.{◌≡◌, ℕ, ◌+◌, List, ◌++◌, length, drop, None, Ok, sym, ap, ◌∙◌, arith}
use Rattle.tasks.specs.Table.{rows}
use Rattle.tasks.proofs.Steps.{passed}
use Rattle.orders.specs.Encoding.{file_of}
use Rattle.order_writer.specs.Writing.{write_why, told, left}
use Rattle.order_writer.proofs.Allowed.{allowed}
use Rattle.order_writer.proofs.write.Goals as goal

pub returns : goal.returns
returns g c =
    let m = g.B.Board.build.meaning c.args.board.now in
    let rs = rows c.args.tasks.now in
    let out = c.args.out.now in
    let file : List ℕ = file_of c.args.letter rs m in
    let counted = c.put_file-length.ensures.onward in
    let why : write_why c.args.letter rs m (length out) ≡ None =
    allowed c.args.letter rs m (length out) c.in_ok-map_err.field-0 (sym (passed c.try_from.result c.map_err.result _ c.in_ok-map_err.field-0 c.map_err.ensures.cases c.in_ok-map_err.was) ∙ c.try_from.ensures)
    (omega (arith, c.len.ensures, c.tasks.ensures, c.if-len-tasks.false)) (omega (arith, c.tasks-else-len-tasks.ensures, c.if-tasks-eq0.false)) (omega (arith, counted, c.if-out-length.false)) in
    let far : 0 + length file ≡ length file = omega arith in
    record {
      told = ap Ok (c.put_file.ensures.onward ∙ far) ∙ ap (λ w. told w (length file)) (sym why);
      left = c.put_file.ensures.fits (omega (arith, counted, c.put_file.ensures.onward)) ∙ ap (λ n. file ++ drop n out) far ∙ ap (λ w. left w file out) (sym why);
    }
