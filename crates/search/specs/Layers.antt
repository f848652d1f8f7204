-- The order of a search: it goes breadth first, so that it comes to each task in the fewest steps.
use Rattle.std.specs.Prelude.{◌≡◌, ℕ, ◌<◌, ◌≤◌, true}
use Rattle.board.specs.Meaning.{Meaning}
use Rattle.search.specs.declared.Search.{Search}
use Rattle.search.specs.Trails.{found_count, open_count, task_at, through_at, core_at, opener_at, is_opened}

-- each core open was opened by a task at place x or before it
abbrev pub OpenersTo : Search → ℕ → Type 0
OpenersTo s x = (o : ℕ) → o < open_count s → opener_at s o ≤ x

-- core j was opened by a task at place x or before it
pub record OpenBy (s : Search) (x j : ℕ) : Type 0 where
  pub opening : ℕ
  pub made : opening < open_count s
  pub core : core_at s opening ≡ j
  pub early : opener_at s opening ≤ x

-- each core of which the task at place x still needs slots was opened so early
abbrev pub EarlyOpen : Meaning → Search → ℕ → Type 0
EarlyOpen m s x = (j : ℕ) → j < m.cores → m.held (task_at s x) j < m.need (task_at s x) j → OpenBy s x j

-- task i began the search, or was found through opening o or an earlier one
pub record FoundBy (s : Search) (o i : ℕ) : Type 0 where
  pub place : ℕ
  pub here : place < found_count s
  pub is : task_at s place ≡ i
  pub early : 0 < place → through_at s place ≤ o

-- each holder of the core of an opening was found so early
abbrev pub Gathered : Meaning → Search → Type 0
Gathered m s = (q i : ℕ) → q < open_count s → i < m.tasks → 0 < m.held i (core_at s q) → FoundBy s q i

-- the same, but of opening o only the holders below k
abbrev pub GatheredTo : Meaning → Search → ℕ → ℕ → Type 0
GatheredTo m s o k = (q i : ℕ) → q < open_count s → i < m.tasks → (q ≡ o → i < k) → 0 < m.held i (core_at s q) → FoundBy s q i

-- breadth first: tasks found earlier open earlier, and cores opened earlier find earlier
pub record Layered (m : Meaning) (s : Search) : Type 0 where
  pub openers_rise : (q : ℕ) → q < open_count s → (o : ℕ) → o < q → opener_at s o ≤ opener_at s q
  pub openings_rise : (y : ℕ) → y < found_count s → (x : ℕ) → 0 < x → x < y → through_at s x ≤ through_at s y
  pub opening : (j : ℕ) → j < m.cores → is_opened s j ≡ true → (o : ℕ) × (o < open_count s) × (core_at s o ≡ j)
