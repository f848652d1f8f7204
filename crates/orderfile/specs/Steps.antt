-- What the reader does with one record.
use Rattle.std.specs.Prelude.{◌≡◌, ◌+◌, List, Ok, Err, Result}
use Rattle.board.specs.declared.fault.Fault.{Fault}
use Rattle.board.specs.Meaning.{cleared}
use Rattle.board.specs.Boards.{Build, Good}
use Rattle.tasks.specs.Rows.{Row}
use Rattle.records.specs.Cuts.{Cut}
use Rattle.sections.specs.declared.state.Reader.{Reader}
use Rattle.sections.specs.Lines.{Said}
use Rattle.orders.specs.Steps.{told_by, board_by, rows_by, Reading, reading, step}

-- what was said has been done to the board a, which became b, and to the rows
pub record Applied {S : Type 0} (build : Build S) (a b : S) (before after : List Row) (said : Said) (r : Result (Unit {0}) Fault) : Type 0 where
  pub told : r ≡ told_by said (build.meaning a) before
  pub left : build.meaning b ≡ board_by said (build.meaning a)
  pub listed : after ≡ rows_by said before
  pub good : Good build b
  pub keeps : build.kept a b

abbrev pub took : Result (Unit {0}) Fault → Reading → Result Reading Fault
took (Ok _) s = Ok s
took (Err fault) s = Err fault

-- one more record has been taken in, on the board a, which became b; refused or not, the board can be cleared to what it was
pub record Took {S : Type 0} (build : Build S) (a b : S) (s : Reading) (cut : Cut) (reader : Reader) (rows : List Row) (r : Result (Unit {0}) Fault) : Type 0 where
  pub told : took r (reading reader (s.seen + 1) (build.meaning b) rows) ≡ step s cut
  pub frame : cleared (build.meaning b) ≡ cleared (build.meaning a)
  pub good : Good build b
  pub keeps : build.kept a b
