-- Which files are orders: the encodings of what a board can hold, and no others.
use Rattle.std.specs.Prelude.{◌≡◌, ℕ, ◌<◌, ◌≤◌, true, List, length, Ok, Err, ◌≢◌}
use Rattle.std.specs.List.{AllByRecursion}
use Rattle.board.specs.Meaning.{Meaning, Sound, cleared}
use Rattle.tasks.specs.Rows.{sound}
use Rattle.sections.specs.declared.letter.Sharing.{Sharing}
use Rattle.sections.specs.Letters.{letter_of}
use Rattle.orders.specs.Encoding.{file_of}
use Rattle.orders.specs.Reads.{Order, Outcome, read_of}

-- the letter of a rule: e, w or n
abbrev pub Known : ℕ → Type 0
Known letter = (sharing : Sharing) × (letter ≡ letter_of sharing)

-- an order that a board like m can hold
pub record Valid (m : Meaning) (order : Order) : Type 0 where
  pub letter : Known order.letter
  -- the empty board holds no order
  pub tasks : 1 ≤ m.tasks
  -- each task has a row, with a weight and a name as they may be, and no two share a name
  pub listed : length order.rows ≡ m.tasks
  pub rows : sound order.rows ≡ true
  -- needs, slots and capacities keep every board's condition
  pub board : Sound order.board
  -- the order has the board's numbers of tasks and cores, and keeps within its greatest numbers
  pub fits : cleared order.board ≡ cleared m

-- the one file that says an order
abbrev pub encoding : Order → List ℕ
encoding order = file_of order.letter order.rows order.board

abbrev pub Byte : ℕ → Type 0
Byte b = b < 256

-- a file is accepted just where it is the encoding of an order that the board can hold, and it gives that order
abbrev pub Lawful : Meaning → List ℕ → Outcome → Type 0
Lawful m file (Ok order) = Valid m order × (file ≡ encoding order)
Lawful m file (Err fault) = (order : Order) → Valid m order → file ≢ encoding order

-- the definition that finds a file's first fault keeps this law
abbrev pub ReadingLawful : Type 0
ReadingLawful = (m : Meaning) (file : List ℕ) → Sound m → AllByRecursion Byte file → Lawful m file (read_of m file)

-- an encoding gives back just the order that it says, so no two orders have the same
abbrev pub EncodingsRead : Type 0
EncodingsRead = (m : Meaning) (order : Order) → Valid m order → read_of m (encoding order) ≡ Ok order
