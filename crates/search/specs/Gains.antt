-- When a task of a board should gain a slot from another.
use Rattle.std.specs.Prelude.{◌≡◌, ℕ, ◌*◌, ◌<◌, Bool, true, false, ◌&&◌, ◌||◌, List, nat_lt, slice_index_or}
use Rattle.std.specs.Ordering.{is_le, is_lt, is_eq}
use Rattle.fairness.specs.declared.Share.{Share}
use Rattle.fairness.specs.Laws.{Comparison}
use Rattle.fairness.specs.Levels.{share_of}
use Rattle.fairness.specs.Routes.{should_gain, risen}
use Rattle.fairness.specs.Settled.{Safe, NoneFree}
use Rattle.board.specs.Meaning.{Meaning, most_cores, most_slots}

-- the most slots that a task can hold of all cores
abbrev pub most_total : ℕ
most_total = most_cores * most_slots

-- what a rule is told of a task of the board
abbrev pub share_on : Meaning → ℕ → Share
share_on m task = share_of m.cores m.need m.held task

-- the loser has a slot, and passing it to the gainer makes a plan fairer
abbrev pub gains_from : Comparison → Share → Share → Bool
gains_from compare gainer loser = nat_lt 0 loser.total && should_gain compare gainer loser

-- whatever the routes, no task should lose a slot to this one
abbrev pub SafeOn : Comparison → Meaning → ℕ → Type 0
SafeOn compare m task = Safe compare m.tasks m.cores m.need m.capacity m.held task

-- no core has a free slot that a task needs
abbrev pub NoneFreeOn : Meaning → Type 0
NoneFreeOn m = NoneFree m.tasks m.cores m.need m.capacity m.held

-- the first share is at least as urgent as the second: it stands lower, or level with it and would rise no less
abbrev pub as_urgent : Comparison → Share → Share → Bool
as_urgent compare first second = is_lt (compare first second) || (is_eq (compare first second) && is_le (compare (risen second) (risen first)))

-- each task that is flagged has nothing to gain, once no slot is free
abbrev pub SafeFlags : Comparison → Meaning → List Bool → Type 0
SafeFlags compare m flags = NoneFreeOn m → (task : ℕ) → task < m.tasks → slice_index_or flags task false ≡ true → SafeOn compare m task
