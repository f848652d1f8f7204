-- The numbers in the body of each kind of record; none where the body has another length.
use Rattle.std.specs.Prelude.{ℕ, ◌-◌, cond, List, length, take, drop, Some, None, Ok, Err, Option, Result, ◌==◌, nat_lt, slice_index}
use Rattle.board.specs.declared.fault.Refusal.{Refusal}
use Rattle.records.specs.declared.fields.HeadLine.{HeadLine}
use Rattle.records.specs.declared.fields.CoreLine.{CoreLine}
use Rattle.records.specs.declared.fields.TaskLine.{TaskLine}
use Rattle.records.specs.declared.fields.PairLine.{PairLine}
use Rattle.records.specs.Wire.{word_at}

abbrev pub head_in : List ℕ → Option HeadLine
head_in body = cond (length body == 3) (Some (record { letter = slice_index body 0; tasks = slice_index body 1; cores = slice_index body 2 })) None

abbrev pub core_in : List ℕ → Option CoreLine
core_in body = cond (length body == 3) (Some (record { core = slice_index body 0; capacity = word_at body 1 })) None

-- a task with the bytes of its name
pub record TaskSaid : Type 0 where
  pub task : ℕ
  pub weight : ℕ
  pub name : List ℕ

abbrev pub said : TaskLine → TaskSaid
said line = record { task = line.task; weight = line.weight; name = line.name.now }

abbrev pub task_seen : Result TaskLine Refusal → Result TaskSaid Refusal
task_seen (Ok line) = Ok (said line)
task_seen (Err why) = Err why

abbrev pub task_in : List ℕ → Option TaskSaid
task_in body =
    cond (nat_lt (length body) 3) None
    (cond (nat_lt 14 (length body)) None
    (Some (record { task = slice_index body 0; weight = slice_index body 1; name = take (length body - 2) (drop 2 body) })))

abbrev pub pair_in : List ℕ → Option PairLine
pair_in body = cond (length body == 4) (Some (record { task = slice_index body 0; core = slice_index body 1; amount = word_at body 2 })) None

abbrev pub count_in : List ℕ → Option ℕ
count_in body = cond (length body == 2) (Some (word_at body 0)) None
