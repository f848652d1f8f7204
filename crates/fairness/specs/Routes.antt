-- Ways to make a plan fairer: a free slot taken, and an exchange that passes one slot along a route.
use Rattle.std.specs.Prelude.{◌≡◌, ℕ, suc, ◌+◌, ◌-◌, ◌<◌, ◌≤◌, Bool, true, ◌&&◌, ◌||◌, ◌≢◌}
use Rattle.std.specs.declared.cmp.Ordering.{Ordering}
use Rattle.std.specs.Ordering.{is_lt, is_eq}
use Rattle.fairness.specs.declared.Share.{Share}
use Rattle.fairness.specs.Sums.{sum_to}
use Rattle.fairness.specs.Plans.{Plan, given}
use Rattle.fairness.specs.Laws.{Comparison}
use Rattle.fairness.specs.Levels.{share_of}
use Rattle.fairness.specs.Moves.{slot_at, Taken}

-- a route of some steps: at each step s the task `at s` needs more of the core `through s` than it holds, and the next task
-- holds a slot there. The first task gains, and the last one, `at steps`, loses
pub record Route (n m : ℕ) (need held : Plan) (steps : ℕ) (at through : ℕ → ℕ) : Type 0 where
  pub some : 0 < steps
  pub tasks : (s : ℕ) → s ≤ steps → at s < n
  pub cores : (s : ℕ) → s < steps → through s < m
  pub needs : (s : ℕ) → s < steps → held (at s) (through s) < need (at s) (through s)
  pub holds : (s : ℕ) → s < steps → 0 < held (at (suc s)) (through s)
  pub no_task_twice : (r s : ℕ) → r < s → s ≤ steps → at r ≢ at s
  pub no_core_twice : (r s : ℕ) → r < s → s < steps → through r ≢ through s

-- one slot passed along a route: at each step the task takes one of the core from the next task
abbrev pub Exchanged : ℕ → ℕ → ℕ → (ℕ → ℕ) → (ℕ → ℕ) → Plan → Plan → Type 0
Exchanged n m steps at through before after =
    (t c : ℕ) → t < n → c < m
    → after t c + sum_to steps (λ s. slot_at (at (suc s)) (through s) t c) ≡ before t c + sum_to steps (λ s. slot_at (at s) (through s) t c)

abbrev pub risen : Share → Share
risen share = record { task = share.task; whole_need = share.whole_need; total = suc share.total }

abbrev pub fallen : Share → Share
fallen share = record { task = share.task; whole_need = share.whole_need; total = share.total - 1 }

-- the test of an exchange, by where the gainer stands, seen from where the loser would fall to,
-- and where the loser now stands, seen from where the gainer would rise to
abbrev pub worthwhile : Ordering → Ordering → Bool
worthwhile low high = is_lt low || (is_eq low && is_lt high)

abbrev pub should_gain : Comparison → Share → Share → Bool
should_gain compare gainer loser = worthwhile (compare gainer (fallen loser)) (compare loser (risen gainer))

-- a task takes a free slot that it needs
pub record FreeSlotTaken (n m : ℕ) (need : Plan) (capacity : ℕ → ℕ) (before after : Plan) : Type 0 where
  pub task : ℕ
  pub core : ℕ
  pub known_task : task < n
  pub known_core : core < m
  pub needed : before task core < need task core
  pub free : given n before core < capacity core
  pub taken : Taken n m before after task core

-- one slot is passed along a route whose exchange passes the test
pub record FairExchange (compare : Comparison) (n m : ℕ) (need before after : Plan) : Type 0 where
  pub steps : ℕ
  pub at : ℕ → ℕ
  pub through : ℕ → ℕ
  pub route : Route n m need before steps at through
  pub passes : should_gain compare (share_of m need before (at 0)) (share_of m need before (at steps)) ≡ true
  pub exchanged : Exchanged n m steps at through before after
