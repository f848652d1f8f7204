use Rattle.std.proofs.Common.{refl, arith}
use Rattle.board.proofs.Passed.{clears}
use Rattle.table_board.specs.declared.TableBoard.{TableBoard}
use Rattle.table_board.specs.Cells.{Wiped}
use Rattle.table_board.specs.Table.{taken, table_build}
use Rattle.table_board.proofs.Writes.{all-zero}
use Rattle.table_board.proofs.TableBoardBoard.clear.Goals as goal

pub returns : goal.returns
returns c =
    let b : TableBoard = c.args.self.now in
    let wiped : Wiped (taken b) b.cells.now c.wipe.new.cells = rw c.numbers.ensures at c.wipe.ensures in
    clears table_build b _ c.requires
    (all-zero b.tasks b.cores c.wipe.new.cells wiped.zero)
    (omega (arith, c.requires.serves, wiped.long))
    (record { whose = refl; past = wiped.past; same_tasks = refl; same_cores = refl })
