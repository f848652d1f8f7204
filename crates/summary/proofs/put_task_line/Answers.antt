use Rattle.std.proofs.Common.{◌^◌, ◌<◌, decimal, arith}
use Rattle.summary.specs.Lines.{percent, tenths}
use Rattle.summary.proofs.Fields.{left-field, right-field, number-field, printable-ascii, percent-ascii, percent-few}
use Rattle.summary.proofs.put_task_line.Goals as goal

pub returns : goal.returns
returns c =
    let name = c.args.name.now in
    let share = tenths c.args.total c.args.slots in
    let small : share < 2 ^ 64 = rw c.tenths.ensures at c.tenths.type_inv in
    rw (
      c.laid_out.ensures,
      c.laid_out-2.ensures,
      c.laid_out-3.ensures,
      c.text_of-name.ensures,
      c.in_ok-percent.ensures,
      c.tenths.ensures,
      left-field 12 name (printable-ascii name c.requires.shown) (omega arith),
      number-field (decimal c.args.total),
      right-field 8 (percent share) (percent-ascii share small) (percent-few share small),
    ) at c.writeln.ensures.bytes
