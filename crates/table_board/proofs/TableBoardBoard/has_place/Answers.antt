use Rattle.std.proofs.Common.{◌<◌, refl, sym, ◌∙◌, arith}
use Rattle.std.proofs.lemmas.Bool.Decides.{nat_tests}
use Rattle.table_board.specs.Table.{table_of}
use Rattle.table_board.proofs.Pairs.{placed}
use Rattle.table_board.proofs.TableBoardBoard.has_place.Goals as goal
use Rattle.table_board.proofs.TableBoardBoard.has_place.Goals.{then-task-self, else-task-self}

pub returns-then-core-self : goal.returns-then-core-self
returns-then-core-self c =
    let m = table_of c.args.self.now in
    let tn : c.args.task < m.tasks = elim c.if-task-self.branch [
      | then-task-self w ↦ w.if-task-self.true
      | else-task-self w ↦ grind (arith, nat_tests, w.value-is)
    ] in
    let cm : c.args.core < m.cores = elim c.if-task-self.branch [
      | then-task-self w ↦ grind (arith, nat_tests, w.value-is)
      | else-task-self w ↦ grind (arith, nat_tests, w.value-is)
    ] in
    c.if-core-self.true ∙ sym (placed m c.args.task c.args.core tn cm refl)
