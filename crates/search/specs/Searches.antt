-- What each part of a search comes to.
use Rattle.std.specs.Prelude.{◌≡◌, ℕ, ◌<◌, true, false, Option, MatchOption}
use Rattle.fairness.specs.Laws.{Comparison}
use Rattle.board.specs.Meaning.{Meaning}
use Rattle.search.specs.declared.Search.{Search}
use Rattle.search.specs.Gains.{share_on, gains_from, as_urgent, NoneFreeOn, SafeOn}
use Rattle.search.specs.Trails.{open_count, found_count, task_at, is_found, opener_at, is_opened, Trail, Grown}
use Rattle.search.specs.Layers.{OpenersTo, EarlyOpen, Gathered, Layered}

-- each holder of an open core is found
abbrev pub Covered : Meaning → Search → Type 0
Covered m s = (j i : ℕ) → j < m.cores → i < m.tasks → is_opened s j ≡ true → 0 < m.held i j → is_found s i ≡ true

-- the same, but of core b only the holders below k
abbrev pub CoveredTo : Meaning → Search → ℕ → ℕ → Type 0
CoveredTo m s b k = (j i : ℕ) → j < m.cores → i < m.tasks → is_opened s j ≡ true → (j ≡ b → i < k) → 0 < m.held i j → is_found s i ≡ true

-- the cores below b of which the task at place x still needs slots are open
abbrev pub SweptTo : Meaning → Search → ℕ → ℕ → Type 0
SweptTo m s x b = (j : ℕ) → j < b → m.held (task_at s x) j < m.need (task_at s x) j → is_opened s j ≡ true

-- the task at place x may open core j
pub record MayOpen (m : Meaning) (s : Search) (x j : ℕ) : Type 0 where
  pub trail : Trail m s
  pub covered : Covered m s
  pub here : x < found_count s
  pub real : j < m.cores
  pub shut : is_opened s j ≡ false
  pub wants : m.held (task_at s x) j < m.need (task_at s x) j
  pub layered : Layered m s
  pub gathered : Gathered m s
  pub latest : OpenersTo s x

-- t is s with core j opened by the task at place x and all its holders found
pub record Opened (m : Meaning) (s t : Search) (x j : ℕ) : Type 0 where
  pub trail : Trail m t
  pub covered : Covered m t
  pub grown : Grown s t
  pub open_now : is_opened t j ≡ true
  pub layered : Layered m t
  pub gathered : Gathered m t
  pub latest : OpenersTo t x

-- all holders of the open cores are found
pub record Complete (m : Meaning) (s : Search) : Type 0 where
  pub trail : Trail m s
  pub covered : Covered m s
  pub layered : Layered m s
  pub gathered : Gathered m s

-- t is s with all cores below b open of which the task at place x still needs slots
pub record Spread (m : Meaning) (s t : Search) (x b : ℕ) : Type 0 where
  pub complete : Complete m t
  pub grown : Grown s t
  pub swept : SweptTo m t x b
  pub latest : OpenersTo t x

-- none of the tasks at places below h should lose a slot to p, and what they lead to is found
pub record Trying (compare : Comparison) (m : Meaning) (p : ℕ) (s : Search) (h : ℕ) : Type 0 where
  pub complete : Complete m s
  pub first : task_at s 0 ≡ p
  pub swept : (x : ℕ) → x < h → SweptTo m s x m.cores
  pub early : (x : ℕ) → x < h → EarlyOpen m s x
  pub latest : (o : ℕ) → o < open_count s → opener_at s o < h
  pub fails : (x : ℕ) → x < h → gains_from compare (share_on m p) (share_on m (task_at s x)) ≡ false

-- the search began at p, and p should gain a slot from the task at place x
pub record Gain (compare : Comparison) (m : Meaning) (p : ℕ) (s : Search) (x : ℕ) : Type 0 where
  pub trail : Trail m s
  pub first : task_at s 0 ≡ p
  pub here : x < found_count s
  pub gains : gains_from compare (share_on m p) (share_on m (task_at s x)) ≡ true
  pub layered : Layered m s
  pub gathered : Gathered m s
  pub early : (y : ℕ) → y < x → EarlyOpen m s y

-- the search from p was in vain: p has nothing to gain, nor has any task that it found and that is no more urgent
pub record InVain (compare : Comparison) (m : Meaning) (p : ℕ) (s : Search) : Type 0 where
  pub own : SafeOn compare m p
  pub others : (task : ℕ) → task < m.tasks → is_found s task ≡ true → as_urgent compare (share_on m p) (share_on m task) ≡ true → SafeOn compare m task

-- what a search from task p comes to: nothing to gain once no slot is free, or the place of the task that should lose a slot
abbrev pub Sought : Comparison → Meaning → ℕ → Search → Option ℕ → Type 0
Sought compare m p s r = MatchOption r (NoneFreeOn m → SafeOn compare m p) (Gain compare m p s)

-- and a search in vain speaks for others too
abbrev pub Spoken : Comparison → Meaning → ℕ → Search → Option ℕ → Type 0
Spoken compare m p s r = MatchOption r (NoneFreeOn m → InVain compare m p s) (λ _. Unit {0})
