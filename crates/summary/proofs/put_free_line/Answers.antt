use Rattle.std.proofs.Common.{codes, decimal, arith}
use Rattle.summary.proofs.Fields.{left-field, number-field, free-ascii}
use Rattle.summary.proofs.put_free_line.Goals as goal

pub returns : goal.returns
returns c = rw (c.laid_out.ensures, c.laid_out-2.ensures, left-field 12 (codes "free") free-ascii (omega arith), number-field (decimal c.args.free)) at c.writeln.ensures.bytes
