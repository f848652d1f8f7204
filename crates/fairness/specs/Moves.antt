-- One slot that changes hands.
use Rattle.std.specs.Prelude.{◌≡◌, ℕ, ◌+◌, ◌<◌, cond, ◌==◌}
use Rattle.fairness.specs.Plans.{Plan}

abbrev pub same : ℕ → ℕ → ℕ
same x y = cond (x == y) 1 0

-- one slot of a task at a core, and nothing elsewhere
abbrev pub slot_at : ℕ → ℕ → Plan
slot_at task core t c = cond (c == core) (same t task) 0

-- after is before, but that the task has one slot of the core more
abbrev pub Taken : ℕ → ℕ → Plan → Plan → ℕ → ℕ → Type 0
Taken n m before after task core = (t c : ℕ) → t < n → c < m → after t c ≡ before t c + slot_at task core t c

-- after is before, but that a slot of the core went from the loser to the gainer
abbrev pub Moved : ℕ → ℕ → Plan → Plan → ℕ → ℕ → ℕ → Type 0
Moved n m before after gainer core loser = (t c : ℕ) → t < n → c < m → after t c + slot_at loser core t c ≡ before t c + slot_at gainer core t c
