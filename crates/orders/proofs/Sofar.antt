-- What holds after some lines have been taken in: they are the lines of what was read, and only what is still to come is missing.
use Rattle.std.proofs.Common.{◌≡◌, ℕ, ◌<◌, ◌≤◌, true, List, [], ◌∷◌, ◌++◌, length, Option, sym, ap, ◌∙◌, append_assoc, append-nil}
use Rattle.fairness.specs.Plans.{Plan}
use Rattle.board.specs.Meaning.{Meaning, Sound, cleared}
use Rattle.records.specs.declared.kind.Kind.TheVariants.{Need, Slots}
use Rattle.tasks.specs.Rows.{Row, sound}
use Rattle.sections.specs.declared.state.Section.{Section}
use Rattle.sections.specs.declared.state.Section.TheVariants as section
use Rattle.sections.specs.declared.state.Pair.{Pair}
use Rattle.sections.specs.Turns.{follows}
use Rattle.orders.specs.Encoding.{Line, head_line, core_line, task_line, each, pair_lines, order_lines, with_end}
use Rattle.orders.specs.Steps.{Reading}
use Rattle.orders.specs.Reads.{Order, before}
use Rattle.orders.specs.Laws.{Known, Valid}

-- the lines of an order of which the first cores have been read
abbrev pub parts : ℕ → ℕ → ℕ → ℕ → (ℕ → ℕ) → List Row → Plan → Plan → List Line
parts letter tasks cores read capacity rows need held =
    head_line letter tasks cores ++ (each read (core_line capacity) ++ (each (length rows) (task_line rows)
    ++ (pair_lines Need tasks cores need ++ pair_lines Slots tasks cores held)))

pub record Sofar (m : Meaning) (s : Reading) (lines : List Line) : Type 0 where
  pub tasks : s.reader.tasks ≡ m.tasks
  pub cores : s.reader.cores ≡ m.cores
  pub some : 1 ≤ m.tasks
  pub letter : Known s.reader.letter
  pub seen : s.seen ≡ length lines
  pub board : Sound s.board
  pub fits : cleared s.board ≡ cleared m
  pub rows : sound s.rows ≡ true
  pub listed : length s.rows ≡ s.reader.task
  pub front : lines ≡ parts s.reader.letter m.tasks m.cores s.reader.core s.board.capacity s.rows s.board.need s.board.held

abbrev pub Nothing : Plan → Type 0
Nothing plan = (t c : ℕ) → plan t c ≡ 0

-- nothing at the pairs that may still come
abbrev pub NothingAfter : Option Pair → Plan → Type 0
NothingAfter last plan = (pair : Pair) → follows pair last ≡ true → plan pair.task pair.core ≡ 0

pub record InCores (m : Meaning) (s : Reading) (lines : List Line) : Type 0 where
  pub sofar : Sofar m s lines
  pub left : s.reader.core < m.cores
  pub rows : s.rows ≡ []
  pub need : Nothing s.board.need
  pub held : Nothing s.board.held

pub record InTasks (m : Meaning) (s : Reading) (lines : List Line) : Type 0 where
  pub sofar : Sofar m s lines
  pub cores : s.reader.core ≡ m.cores
  pub left : length s.rows < m.tasks
  pub need : Nothing s.board.need
  pub held : Nothing s.board.held

pub record InNeeds (m : Meaning) (s : Reading) (lines : List Line) : Type 0 where
  pub sofar : Sofar m s lines
  pub cores : s.reader.core ≡ m.cores
  pub listed : length s.rows ≡ m.tasks
  pub need : NothingAfter s.reader.last s.board.need
  pub held : Nothing s.board.held

pub record InSlots (m : Meaning) (s : Reading) (lines : List Line) : Type 0 where
  pub sofar : Sofar m s lines
  pub cores : s.reader.core ≡ m.cores
  pub listed : length s.rows ≡ m.tasks
  pub held : NothingAfter s.reader.last s.board.held

-- the order that has been read
abbrev pub order_in : Reading → Order
order_in s = record { letter = s.reader.letter; board = s.board; rows = s.rows }

abbrev pub lines_in : Reading → List Line
lines_in s = order_lines s.reader.letter s.board.cores s.board.capacity s.rows s.board.need s.board.held

pub record Done (m : Meaning) (s : Reading) (lines : List Line) : Type 0 where
  pub valid : Valid m (order_in s)
  pub whole : lines ≡ with_end (lines_in s)

abbrev pub Read : Meaning → Section → Reading → List Line → Type 0
Read m section.Head s lines = (s ≡ before (cleared m) []) × (lines ≡ [])
Read m section.Cores s lines = InCores m s lines
Read m section.Tasks s lines = InTasks m s lines
Read m section.Needs s lines = InNeeds m s lines
Read m section.Slots s lines = InSlots m s lines
Read m section.Ended s lines = Done m s lines

-- a line at the end of a part behind which nothing stands yet, and of a list's last part
pub push-here : (a b rest : List Line) (x : Line) → rest ≡ [] → b ≡ a ++ x ∷ [] → (a ++ rest) ++ x ∷ [] ≡ b ++ rest
push-here a b rest x none more =
    ap (λ l. (a ++ l) ++ x ∷ []) none ∙ ap (λ l. l ++ x ∷ []) (append-nil a) ∙ sym more ∙ sym (append-nil b) ∙ ap (λ l. b ++ l) (sym none)

pub push-under : (a rest more : List Line) (x : Line) → rest ++ x ∷ [] ≡ more → (a ++ rest) ++ x ∷ [] ≡ a ++ more
push-under a rest more x e = append_assoc a rest (x ∷ []) ∙ ap (λ l. a ++ l) e
