-- The way back from a task that a search has found to where it began.
use Rattle.std.specs.Prelude.{◌≡◌, ℕ, suc, ◌<◌, ◌≤◌, List, slice_index_or}
use Rattle.search.specs.declared.Search.{Search}
use Rattle.search.specs.Trails.{found_count, task_at, through_at, core_at, opener_at}
use Rattle.routes.specs.declared.Step.{Step}
use Rattle.routes.specs.Routes.{no_step, core_on}

-- the first k steps of l lead from place 0 to place x, each by what found the next
pub record Chain (s : Search) (x : ℕ) (l : List Step) (k : ℕ) : Type 0 where
  pub at : ℕ → ℕ
  pub start : at 0 ≡ 0
  pub end : at k ≡ x
  pub next : (i : ℕ) → i < k → (0 < at (suc i)) × (at i ≡ opener_at s (through_at s (at (suc i))))
  pub within : (i : ℕ) → i ≤ k → at i < found_count s
  pub tasks : (i : ℕ) → i < k → (slice_index_or l i no_step).task ≡ task_at s (at i)
  pub cores : (i : ℕ) → i < k → core_on l i ≡ core_at s (through_at s (at (suc i)))

-- from entry k on nothing has changed
abbrev pub RestSame : List Step → List Step → ℕ → Type 0
RestSame l r k = (i : ℕ) → k ≤ i → slice_index_or r i no_step ≡ slice_index_or l i no_step
