use Rattle.std.proofs.Common.{rules, ◌≡◌, Err, ◌∙◌}
use Rattle.board.specs.Meaning.{Meaning}
use Rattle.table_board.specs.Table.{table_of}
use Rattle.tasks.specs.Table.{rows}
use Rattle.orders.specs.Reads.{read_of}
use Rattle.reporting.specs.Reports.{outcome_of}
use Rattle.c_calls.proofs.Opening.{outcome-is, order_is, fault_is}
use Rattle.c_calls.proofs.read_order.Goals as goal

pub returns-in_err-letter : goal.returns-in_err-letter
returns-in_err-letter c =
    let file = c.args.file.now in
    let old : Meaning = table_of c.make-board.result in
    let opened = outcome-is file (c.in_ok-n.field-0-0, c.in_ok-n.n, c.in_ok-n.m) old _ c.in_ok-n.ensures c.told-cells c.make-board.ensures.means in
    let refused : outcome_of file ≡ Err c.in_err-letter.field-0.0 = opened ∙ fault_is (read_of old file) _ c.in_err-letter.ensures.read.told in
    search (rules, refused)

pub returns : goal.returns
returns c =
    let file = c.args.file.now in
    let old : Meaning = table_of c.make-board.result in
    let read = c.in_ok-letter.ensures.read in
    let opened = outcome-is file (c.in_ok-n.field-0-0, c.in_ok-n.n, c.in_ok-n.m) old _ c.in_ok-n.ensures c.told-cells c.make-board.ensures.means in
    record {
      good = read.good;
      listed = search rules;
      gives = opened ∙ order_is (read_of old file) old (table_of c.read.new.board) (rows c.read.new.tasks) c.in_ok-letter.letter read.told read.left read.listed;
    }
