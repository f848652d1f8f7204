-- What a search for a fairer route has found, and how it came to it.
use Rattle.std.specs.Prelude.{◌≡◌, ℕ, ◌<◌, ◌≤◌, Bool, true, false, cond, [], ◌∷◌, ◌++◌, length, replicate, ◌≢◌, slice_index_or, slice_set}
use Rattle.fairness.specs.Sums.{sum_to}
use Rattle.board.specs.Meaning.{Meaning, most_tasks, most_cores}
use Rattle.arrayvec.specs.ArrayVec.{array_vec_len}
use Rattle.search.specs.declared.Search.{Search}
use Rattle.search.specs.declared.Seen.{Seen}
use Rattle.search.specs.declared.Opening.{Opening}

-- what stands past the end of a list
abbrev pub no_seen : Seen
no_seen = record { task = 0; opening = 0 }

abbrev pub no_opening : Opening
no_opening = record { core = 0; opener = 0 }

-- how many tasks are found, and how many cores are open
abbrev pub found_count : Search → ℕ
found_count s = array_vec_len s.seen

abbrev pub open_count : Search → ℕ
open_count s = array_vec_len s.openings

-- the task at place x, the opening that found it, and whether task k is found
abbrev pub task_at : Search → ℕ → ℕ
task_at s x = (slice_index_or s.seen.items x no_seen).task

abbrev pub through_at : Search → ℕ → ℕ
through_at s x = (slice_index_or s.seen.items x no_seen).opening

abbrev pub is_found : Search → ℕ → Bool
is_found s k = slice_index_or s.found k false

-- the core of opening o, the place of the task that opened it, and whether core j is open
abbrev pub core_at : Search → ℕ → ℕ
core_at s o = (slice_index_or s.openings.items o no_opening).core

abbrev pub opener_at : Search → ℕ → ℕ
opener_at s o = (slice_index_or s.openings.items o no_opening).opener

-- the opening that found the task at place x
abbrev pub opening_of : Search → ℕ → Opening
opening_of s x = slice_index_or s.openings.items (through_at s x) no_opening

abbrev pub is_opened : Search → ℕ → Bool
is_opened s j = slice_index_or s.opened j false

-- nothing found
abbrev pub empty : Search
empty = record {
  seen = record { items = [] };
  found = replicate 64 false;
  openings = record { items = [] };
  opened = replicate 16 false;
}

-- task k is found through opening o
abbrev pub reached : Search → ℕ → ℕ → Search
reached s k o = record {
  seen = record { items = s.seen.items ++ record { task = k; opening = o } ∷ [] };
  found = slice_set s.found k true;
  openings = s.openings;
  opened = s.opened;
}

-- the task at place x opens core j
abbrev pub entered : Search → ℕ → ℕ → Search
entered s x j = record {
  seen = s.seen;
  found = s.found;
  openings = record { items = s.openings.items ++ record { core = j; opener = x } ∷ [] };
  opened = slice_set s.opened j true;
}

-- the flags' sizes
pub record Sized (s : Search) : Type 0 where
  pub found : length s.found ≡ most_tasks
  pub opened : length s.opened ≡ most_cores

-- what led to each task found and to each core opened lies before it, and no task and no core stands twice
pub record Linked (s : Search) : Type 0 where
  pub sized : Sized s
  pub some : 0 < found_count s
  pub room : found_count s ≤ most_tasks
  pub limit : open_count s ≤ most_cores
  pub apart : (y : ℕ) → y < found_count s → (x : ℕ) → x < y → task_at s x ≢ task_at s y
  pub cause : (x : ℕ) → x < found_count s → 0 < x → through_at s x < open_count s
  pub earlier : (x : ℕ) → x < found_count s → 0 < x → opener_at s (through_at s x) < x
  pub placing : (o : ℕ) → o < open_count s → opener_at s o < found_count s
  pub falls : (o : ℕ) → o < open_count s → 0 < opener_at s o → through_at s (opener_at s o) < o
  pub once : (o : ℕ) → o < open_count s → (q : ℕ) → q < o → core_at s q ≢ core_at s o

-- on the board, each opener still needs slots of the core that it opened, and each task found there holds some
pub record Trail (m : Meaning) (s : Search) : Type 0 where
  pub linked : Linked s
  pub number : found_count s ≡ sum_to m.tasks (λ k. cond (is_found s k) 1 0)
  pub inside : (x : ℕ) → x < found_count s → task_at s x < m.tasks
  pub known : (x : ℕ) → x < found_count s → is_found s (task_at s x) ≡ true
  pub placed : (k : ℕ) → k < m.tasks → is_found s k ≡ true → (x : ℕ) × (x < found_count s) × (task_at s x ≡ k)
  pub holds : (x : ℕ) → x < found_count s → 0 < x → 0 < m.held (task_at s x) (core_at s (through_at s x))
  pub few : open_count s ≡ sum_to m.cores (λ j. cond (is_opened s j) 1 0)
  pub real : (o : ℕ) → o < open_count s → core_at s o < m.cores
  pub shown : (o : ℕ) → o < open_count s → is_opened s (core_at s o) ≡ true
  pub wants : (o : ℕ) → o < open_count s → m.held (task_at s (opener_at s o)) (core_at s o) < m.need (task_at s (opener_at s o)) (core_at s o)

-- t has all that s has found and opened
pub record Grown (s t : Search) : Type 0 where
  pub more : found_count s ≤ found_count t
  pub same : (x : ℕ) → x < found_count s → task_at t x ≡ task_at s x
  pub stays : (j : ℕ) → is_opened s j ≡ true → is_opened t j ≡ true
  pub more_opens : open_count s ≤ open_count t
  pub same_core : (o : ℕ) → o < open_count s → core_at t o ≡ core_at s o
  pub same_opener : (o : ℕ) → o < open_count s → opener_at t o ≡ opener_at s o
