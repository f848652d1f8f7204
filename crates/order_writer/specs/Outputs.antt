-- How an output grows, line by line.
use Rattle.std.specs.Prelude.{◌≡◌, ℕ, ◌+◌, ◌*◌, ◌≤◌, List, length}
use Rattle.board.specs.Meaning.{Meaning}
use Rattle.fairness.specs.Plans.{Plan}
use Rattle.records.specs.declared.kind.Kind.{Kind}
use Rattle.records.specs.declared.kind.Kind.TheVariants.{Slots}
use Rattle.tasks.specs.Rows.{Row}
use Rattle.orders.specs.Encoding.{Line, bytes_of, order_lines}
use Rattle.order_writer.specs.declared.output.Output.{Output}
use Rattle.order_writer.specs.Writing.{Put}

-- bytes that continue what is written, in the same memory
pub record Appended (before after : Output) (bytes : List ℕ) : Type 0 where
  pub put : Put before.out.now after.out.now before.bytes after.bytes bytes
  pub records : after.records ≡ before.records
  pub whose : after.out.ghost_name ≡ before.out.ghost_name

-- lines that continue what is written; none has more than 18 bytes
pub record Continued (before after : Output) (lines : List Line) : Type 0 where
  pub bytes : Put before.out.now after.out.now before.bytes after.bytes (bytes_of lines)
  pub counted : after.records ≡ before.records + length lines
  pub near : after.bytes + 18 * before.records ≤ before.bytes + 18 * after.records
  pub whose : after.out.ghost_name ≡ before.out.ghost_name

-- the lines of an order, but for the end
abbrev pub lines_of : ℕ → List Row → Meaning → List Line
lines_of letter rows m = order_lines letter m.cores m.capacity rows m.need m.held

-- so little is written that the numbers of it do not overflow
pub record Few (most : ℕ) (done : Output) : Type 0 where
  pub bytes : done.bytes ≤ 18 * done.records
  pub records : done.records ≤ most

-- the amounts that the lines of a kind tell: slots held, or needs
abbrev pub amounts_of : Kind → Meaning → Plan
amounts_of Slots m = m.held
amounts_of _ m = m.need
