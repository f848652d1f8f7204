-- What a list of entries says of each pair of a task and a core.
use Rattle.std.specs.Prelude.{◌≡◌, ℕ, ◌<◌, Bool, true, false, cond, ◌&&◌, List, map, ◌==◌, filter, sum, slice_index_or}
use Rattle.fairness.specs.Sums.{sum_to}
use Rattle.fairness.specs.Plans.{Plan}
use Rattle.pair_board.specs.declared.entry.Entry.{Entry}

abbrev pub blank : Entry
blank = record { task = 0; core = 0; need = 0; held = 0 }

abbrev pub entry_at : List Entry → ℕ → Entry
entry_at entries at = slice_index_or entries at blank

abbrev pub is_for : Entry → ℕ → ℕ → Bool
is_for entry task core = entry.task == task && entry.core == core

-- an amount for each pair: what the entries in use say of it together
abbrev pub amounts : (Entry → ℕ) → List Entry → ℕ → Plan
amounts amount entries used task core = sum_to used (λ at. cond (is_for (entry_at entries at) task core) (amount (entry_at entries at)) 0)

-- the slots that the entries hold of a core
abbrev pub slots_of : List Entry → ℕ → ℕ
slots_of entries core = sum (map (λ entry. entry.held) (filter (λ entry. entry.core == core) entries))

-- no entry in use is for the pair
abbrev pub Absent : List Entry → ℕ → ℕ → ℕ → Type 0
Absent entries used task core = (at : ℕ) → at < used → is_for (entry_at entries at) task core ≡ false

-- the pair's entry is there
abbrev pub At : List Entry → ℕ → ℕ → ℕ → ℕ → Type 0
At entries used task core at = (at < used) × (is_for (entry_at entries at) task core ≡ true)

-- the entries in use serve a board of n tasks and m cores: each has a need and is for a pair of the board, and no pair has two
pub record Serving (n m : ℕ) (entries : List Entry) (used : ℕ) : Type 0 where
  pub on_tasks : (at : ℕ) → at < used → (entry_at entries at).task < n
  pub on_cores : (at : ℕ) → at < used → (entry_at entries at).core < m
  pub some : (at : ℕ) → at < used → 0 < (entry_at entries at).need
  pub alone : (a b : ℕ) → a < used → b < used → (entry_at entries a).task ≡ (entry_at entries b).task → (entry_at entries a).core ≡ (entry_at entries b).core → a ≡ b
