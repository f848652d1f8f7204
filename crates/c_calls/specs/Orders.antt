-- The order that a file gives, on the board that it is read onto.
use Rattle.std.specs.Prelude.{◌≡◌, ℕ, List, length, Ok, Err, Result}
use Rattle.board.specs.declared.fault.Fault.{Fault}
use Rattle.board.specs.Boards.{Good}
use Rattle.table_board.specs.declared.TableBoard.{TableBoard}
use Rattle.table_board.specs.Table.{table_of, table_build}
use Rattle.tasks.specs.Rows.{Row}
use Rattle.orders.specs.Reads.{Outcome}

-- the board and the rows are the order that the file gives
pub record Stands (outcome : Outcome) (letter : ℕ) (board : TableBoard) (rows : List Row) : Type 0 where
  pub good : Good table_build board
  pub listed : length rows ≡ (table_of board).tasks
  pub gives : outcome ≡ Ok (record { letter = letter; board = table_of board; rows = rows })

-- an order that stands, or the file's first fault
abbrev pub OrderRead : Outcome → List Row → Result (ℕ × TableBoard) Fault → Type 0
OrderRead outcome rows (Ok order) = Stands outcome order.0 order.1 rows
OrderRead outcome rows (Err fault) = outcome ≡ Err fault
