-- What each kind of record comes to where it may stand: its numbers or why they are refused, and what may follow it.
use Rattle.std.specs.Prelude.{ℕ, ◌+◌, Bool, true, false, cond, ◌&&◌, ◌||◌, List, Some, None, Ok, Err, Option, Result, ◌==◌, nat_le, nat_lt}
use Rattle.board.specs.Meaning.{most_slots}
use Rattle.board.specs.declared.fault.Refusal.{Refusal}
use Rattle.board.specs.declared.fault.Refusal.TheVariants.{WrongLength, NumberOutOfTurn, ValueOutOfBounds, SizesDiffer, WrongCount}
use Rattle.records.specs.declared.fields.HeadLine.{HeadLine}
use Rattle.records.specs.declared.fields.CoreLine.{CoreLine}
use Rattle.records.specs.declared.fields.PairLine.{PairLine}
use Rattle.records.specs.Fields.{core_in, TaskSaid, task_in, pair_in, count_in}
use Rattle.sections.specs.declared.state.Section.{Section}
use Rattle.sections.specs.declared.state.Section.TheVariants.{Head, Cores, Tasks, Needs, Ended}
use Rattle.sections.specs.declared.state.Pair.{Pair}
use Rattle.sections.specs.declared.state.Reader.{Reader}
use Rattle.sections.specs.Letters.{head_test}

-- before the first record
abbrev pub start : ℕ → ℕ → Reader
start tasks cores = record { section = Head; letter = 0; tasks = tasks; cores = cores; core = 0; task = 0; last = None }

abbrev pub is_ended : Section → Bool
is_ended Ended = true
is_ended _ = false

-- a refused record changes nothing
abbrev pub unless_refused : {A : Type 0} → Result A Refusal → Reader → (A → Reader) → Reader
unless_refused (Ok found) s next = next found
unless_refused (Err why) s next = s

-- the head names the board's own sizes
abbrev pub head_fits : Reader → Result HeadLine Refusal → Result HeadLine Refusal
head_fits s (Err why) = Err why
head_fits s (Ok head) = cond (head.tasks == s.tasks && head.cores == s.cores) (Ok head) (Err SizesDiffer)

abbrev pub accepted : {A : Type 0} → Result A Refusal → Result (Unit {0}) Refusal
accepted (Ok found) = Ok tt
accepted (Err why) = Err why

abbrev pub head_told : Reader → List ℕ → Result (Unit {0}) Refusal
head_told s body = accepted (head_fits s (head_test body))

abbrev pub head_next : Reader → HeadLine → Reader
head_next s head = record { section = Cores; letter = head.letter; tasks = s.tasks; cores = s.cores; core = s.core; task = s.task; last = s.last }

abbrev pub head_left : Reader → List ℕ → Reader
head_left s body = unless_refused (head_fits s (head_test body)) s (head_next s)

-- the next core, with a capacity that a core can have
abbrev pub core_fits : Reader → Option CoreLine → Result CoreLine Refusal
core_fits s None = Err WrongLength
core_fits s (Some line) =
    cond (line.core == s.core)
    (cond (nat_lt most_slots line.capacity) (Err ValueOutOfBounds) (Ok line))
    (Err NumberOutOfTurn)

abbrev pub core_told : Reader → List ℕ → Result CoreLine Refusal
core_told s body = core_fits s (core_in body)

-- the section after a numbered record: the next one, once all of them are there
abbrev pub section_at : ℕ → ℕ → Section → Section → Section
section_at number all next now = cond (number == all) next now

abbrev pub core_next : Reader → CoreLine → Reader
core_next s line = record { section = section_at (line.core + 1) s.cores Tasks s.section; letter = s.letter; tasks = s.tasks; cores = s.cores; core = line.core + 1; task = s.task; last = s.last }

abbrev pub core_left : Reader → List ℕ → Reader
core_left s body = unless_refused (core_told s body) s (core_next s)

-- the next task; its weight and name are the task table's to judge
abbrev pub task_fits : Reader → Option TaskSaid → Result TaskSaid Refusal
task_fits s None = Err WrongLength
task_fits s (Some line) = cond (line.task == s.task) (Ok line) (Err NumberOutOfTurn)

abbrev pub task_told : Reader → List ℕ → Result TaskSaid Refusal
task_told s body = task_fits s (task_in body)

abbrev pub task_next : Reader → TaskSaid → Reader
task_next s line = record { section = section_at (line.task + 1) s.tasks Needs s.section; letter = s.letter; tasks = s.tasks; cores = s.cores; core = s.core; task = line.task + 1; last = s.last }

abbrev pub task_left : Reader → List ℕ → Reader
task_left s body = unless_refused (task_told s body) s (task_next s)

-- pairs rise by task, then by core
abbrev pub follows : Pair → Option Pair → Bool
follows pair None = true
follows pair (Some before) = nat_lt before.task pair.task || (before.task == pair.task && nat_lt before.core pair.core)

abbrev pub pair_of : PairLine → Pair
pair_of line = record { task = line.task; core = line.core }

abbrev pub in_turn : Reader → PairLine → Bool
in_turn s line = nat_lt line.task s.tasks && (nat_lt line.core s.cores && follows (pair_of line) s.last)

abbrev pub pair_fits : Reader → Option PairLine → Result PairLine Refusal
pair_fits s None = Err WrongLength
pair_fits s (Some line) =
    cond (in_turn s line)
    (cond (nat_le 1 line.amount && nat_le line.amount most_slots) (Ok line) (Err ValueOutOfBounds))
    (Err NumberOutOfTurn)

abbrev pub pair_told : Reader → List ℕ → Result PairLine Refusal
pair_told s body = pair_fits s (pair_in body)

abbrev pub pair_next : Reader → PairLine → Reader
pair_next s line = record { section = s.section; letter = s.letter; tasks = s.tasks; cores = s.cores; core = s.core; task = s.task; last = Some (pair_of line) }

abbrev pub pair_left : Reader → List ℕ → Reader
pair_left s body = unless_refused (pair_told s body) s (pair_next s)

-- the end tells how many records stand before it
abbrev pub end_fits : ℕ → Option ℕ → Result (Unit {0}) Refusal
end_fits seen None = Err WrongLength
end_fits seen (Some count) = cond (count == seen) (Ok tt) (Err WrongCount)

abbrev pub end_told : ℕ → List ℕ → Result (Unit {0}) Refusal
end_told seen body = end_fits seen (count_in body)

abbrev pub end_next : Reader → Unit {0} → Reader
end_next s _ = record { section = Ended; letter = s.letter; tasks = s.tasks; cores = s.cores; core = s.core; task = s.task; last = s.last }

abbrev pub end_left : Reader → ℕ → List ℕ → Reader
end_left s seen body = unless_refused (end_told seen body) s (end_next s)
