-- The section reached and the kind just read settle together what a record says, and what may follow it.
use Rattle.std.specs.Prelude.{ℕ, List, None, Ok, Err, Result}
use Rattle.board.specs.declared.fault.Refusal.{Refusal}
use Rattle.board.specs.declared.fault.Refusal.TheVariants.{KindOutOfTurn}
use Rattle.records.specs.declared.kind.Kind.{Kind}
use Rattle.records.specs.declared.kind.Kind.TheVariants as kind
use Rattle.records.specs.declared.fields.CoreLine.{CoreLine}
use Rattle.records.specs.declared.fields.PairLine.{PairLine}
use Rattle.records.specs.Fields.{TaskSaid, said}
use Rattle.records.specs.Cuts.{Cut}
use Rattle.sections.specs.declared.state.Section.{Section}
use Rattle.sections.specs.declared.state.Section.TheVariants.{Head, Cores, Tasks, Needs, Slots}
use Rattle.sections.specs.declared.state.Reader.{Reader}
use Rattle.sections.specs.declared.state.Line.{Line}
use Rattle.sections.specs.declared.state.Line.TheVariants as line
use Rattle.sections.specs.Turns.{head_told, core_told, task_told, pair_told, end_told, head_left, core_left, task_left, pair_left, end_left}

-- what a record says
pub data Said : Type 0 where
  head : Said
  core : CoreLine → Said
  task : TaskSaid → Said
  need : PairLine → Said
  slots : PairLine → Said
  end : Said

abbrev pub said_by : Line → Said
said_by line.Head = head
said_by (line.Core l) = core l
said_by (line.Task l) = task (said l)
said_by (line.Need l) = need l
said_by (line.Slots l) = slots l
said_by line.End = end

abbrev pub said_of : Result Line Refusal → Result Said Refusal
said_of (Ok l) = Ok (said_by l)
said_of (Err why) = Err why

abbrev pub saying : {A : Type 0} → (A → Said) → Result A Refusal → Result Said Refusal
saying name (Ok found) = Ok (name found)
saying name (Err why) = Err why

-- where the slots begin, the pairs begin anew
abbrev pub at_slots : Reader → Reader
at_slots s = record { section = Slots; letter = s.letter; tasks = s.tasks; cores = s.cores; core = s.core; task = s.task; last = None }

abbrev pub line_in : Section → Kind → Reader → ℕ → List ℕ → Result Said Refusal
line_in Head kind.Head s seen body = saying (λ _. head) (head_told s body)
line_in Cores kind.Core s seen body = saying core (core_told s body)
line_in Tasks kind.Task s seen body = saying task (task_told s body)
line_in Needs kind.Need s seen body = saying need (pair_told s body)
line_in Needs kind.Slots s seen body = saying slots (pair_told (at_slots s) body)
line_in Needs kind.End s seen body = saying (λ _. end) (end_told seen body)
line_in Slots kind.Slots s seen body = saying slots (pair_told s body)
line_in Slots kind.End s seen body = saying (λ _. end) (end_told seen body)
line_in _ _ s seen body = Err KindOutOfTurn

abbrev pub left_in : Section → Kind → Reader → ℕ → List ℕ → Reader
left_in Head kind.Head s seen body = head_left s body
left_in Cores kind.Core s seen body = core_left s body
left_in Tasks kind.Task s seen body = task_left s body
left_in Needs kind.Need s seen body = pair_left s body
left_in Needs kind.Slots s seen body = pair_left (at_slots s) body
left_in Needs kind.End s seen body = end_left s seen body
left_in Slots kind.Slots s seen body = pair_left s body
left_in Slots kind.End s seen body = end_left s seen body
left_in _ _ s seen body = s

-- what the record says after `seen` others, or why it is refused
abbrev pub line_of : Reader → ℕ → Cut → Result Said Refusal
line_of s seen cut = line_in s.section cut.kind s seen cut.body

-- how far the file is read with it
abbrev pub line_left : Reader → ℕ → Cut → Reader
line_left s seen cut = left_in s.section cut.kind s seen cut.body
