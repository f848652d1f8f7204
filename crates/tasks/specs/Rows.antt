-- The rows of a task table, and what makes them sound.
use Rattle.std.specs.Prelude.{ℕ, Bool, true, not, ◌&&◌, List, [], ◌∷◌, map, take, nat_le}
use Rattle.std.specs.List.{list_any}
use Rattle.std.specs.Str.{bytes_eq}
use Rattle.tasks.specs.Names.{good_name}
use Rattle.tasks.specs.NameReads.{name_of}
use Rattle.tasks.specs.declared.task.Task.{Task}
use Rattle.tasks.specs.declared.entries.Entries.{Entries}

pub record Row : Type 0 where
  pub weight : ℕ
  pub name : List ℕ

abbrev pub row : ℕ → List ℕ → Row
row weight name = record { weight = weight; name = name }

abbrev pub row_of : Task → Row
row_of task = row task.weight (name_of task.name)

-- the first entries, as rows
abbrev pub rows_of : Entries → ℕ → List Row
rows_of entries count = map row_of (take count entries.tasks)

-- some row has the name
abbrev pub taken : List ℕ → List Row → Bool
taken name rows = list_any (λ row. bytes_eq row.name name) rows

abbrev pub good_weight : ℕ → Bool
good_weight weight = nat_le 1 weight && nat_le weight 100

-- each weight and name is as an order may have it, and no two rows share a name
abbrev pub sound : List Row → Bool
sound [] = true
sound (first ∷ rest) = good_weight first.weight && (good_name first.name && (not (taken first.name rest) && sound rest))
