use Rattle.std.proofs.Common.{sym, ap, ◌∙◌, subst, arith}
use Rattle.std.proofs.ByRecursion.{All-from_get_or}
use Rattle.board.specs.Meaning.{cleared}
use Rattle.tasks.specs.Table.{rows}
use Rattle.orders.specs.Reads.{letter_of, board_of, rows_of, order_of, run_from}
use Rattle.orders.specs.Laws.{Byte, Lawful}
use Rattle.orders.proofs.Lawful.{reading-lawful}
use Rattle.orderfile.proofs.Cleared.{letter-gave, refused, taken}
use Rattle.orderfile.proofs.read.Goals as goal

pub returns-then-is_err : goal.returns-then-is_err
returns-then-is_err g c =
    let b = g.B.Board in
    let m = b.build.meaning c.args.board.now in
    let r = c.read_records-letter.result in
    let filled = c.read_records-letter.ensures in
    let again = c.clear-then-is_err.ensures in
    let gone = refused r (b.build.meaning c.read_records-letter.new.board) (b.build.meaning c.clear-then-is_err.new.self) (rows c.read_records-letter.new.tasks) (rows c.clear-then-is_err-2.new.self) (sym c.is_err.ensures.value ∙ c.if-is_err.true) in
    let e = filled.told ∙ (λ i. order_of (run_from (c.clear.ensures.left i) (c.clear-2.ensures i) c.args.file.now)) in
    let keeps = b.build.keeping.onward c.args.board.now c.clear.new.self c.read_records-letter.new.board c.clear.ensures.keeps filled.keeps in
    record {
      read = record {
        told = letter-gave r _ _ ∙ ap letter_of e;
        left = again.left ∙ filled.frame ∙ ap cleared c.clear.ensures.left ∙ gone.left m ∙ ap (board_of m) e;
        listed = c.clear-then-is_err-2.ensures ∙ gone.listed ∙ ap rows_of e;
        good = again.good;
        keeps = b.build.keeping.onward c.args.board.now c.read_records-letter.new.board c.clear-then-is_err.new.self keeps again.keeps;
      };
      lawful = subst (Lawful m c.args.file.now) (sym (gone.same ∙ e)) (reading-lawful m c.args.file.now c.requires.sound (All-from_get_or Byte c.args.file.now 0 (λ i h. omega (arith, c.type_inv.file i))));
    }

pub returns-else-is_err : goal.returns-else-is_err
returns-else-is_err g c =
    let b = g.B.Board in
    let m = b.build.meaning c.args.board.now in
    let r = c.read_records-letter.result in
    let filled = c.read_records-letter.ensures in
    let there = taken r (b.build.meaning c.read_records-letter.new.board) (rows c.read_records-letter.new.tasks) (sym c.is_err.ensures.value ∙ c.if-is_err.false) in
    let e = filled.told ∙ (λ i. order_of (run_from (c.clear.ensures.left i) (c.clear-2.ensures i) c.args.file.now)) in
    record {
      read = record {
        told = letter-gave r _ _ ∙ ap letter_of e;
        left = there.left m ∙ ap (board_of m) e;
        listed = there.listed ∙ ap rows_of e;
        good = filled.good;
        keeps = b.build.keeping.onward c.args.board.now c.clear.new.self c.read_records-letter.new.board c.clear.ensures.keeps filled.keeps;
      };
      lawful = subst (Lawful m c.args.file.now) (sym e) (reading-lawful m c.args.file.now c.requires.sound (All-from_get_or Byte c.args.file.now 0 (λ i h. omega (arith, c.type_inv.file i))));
    }
