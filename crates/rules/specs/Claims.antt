-- What can be claimed of a plan on a small board, and the computation that tests a claim.
use Rattle.std.specs.Prelude.{◌≡◌, ℕ, ◌-◌, ◌<◌, Bool, true, not, ◌&&◌, List, [], ◌∷◌, length, ◌==◌, nat_le, slice_index, slice_index_or}
use Rattle.fairness.specs.Sums.{sum_to, all_to}
use Rattle.fairness.specs.Plans.{Plan, given, total}
use Rattle.fairness.specs.Laws.{Comparison, Lawful, most_counted}
use Rattle.fairness.specs.Levels.{Fairer, Fairest, share_of}
use Rattle.fairness.specs.Routes.{Route, Exchanged, should_gain}
use Rattle.fairness.specs.Decision.{is_feasible, is_fairest, is_only, is_route}

-- numbers by task, and for each task by core
abbrev pub table : List (List ℕ) → Plan
table rows task core = slice_index (slice_index_or rows task []) core

pub data Claim : Type 0 where
  fairest : Claim
  not_fairest : Claim
  -- every fairest plan has these totals
  only_these : Claim
  -- so many slots are free on all cores
  free_slots_are : ℕ → Claim
  -- a route that makes the plan fairer: its tasks from the gainer to the loser, and the cores between them
  fairer_route : List ℕ → List ℕ → Claim

pub record WorkedPlan : Type 0 where
  pub slots : List (List ℕ)
  pub claims : List Claim

pub record Example : Type 0 where
  pub compare : Comparison
  pub lawful : Lawful compare
  pub capacities : List ℕ
  pub needs : List (List ℕ)
  pub plans : List WorkedPlan

abbrev pub tasks : Example → ℕ
tasks e = length e.needs

abbrev pub cores : Example → ℕ
cores e = length e.capacities

abbrev pub need : Example → Plan
need e = table e.needs

abbrev pub capacity : Example → ℕ → ℕ
capacity e core = slice_index e.capacities core

abbrev pub free_slots : Example → Plan → ℕ
free_slots e held = sum_to (cores e) (λ core. capacity e core - given (tasks e) held core)

abbrev pub listed : List ℕ → ℕ → ℕ
listed numbers k = slice_index numbers k

-- what a claim says of a plan
abbrev pub Holds : Example → Plan → Claim → Type 0
Holds e held fairest = Fairest e.compare (tasks e) (cores e) (need e) (capacity e) held
Holds e held not_fairest = Fairest e.compare (tasks e) (cores e) (need e) (capacity e) held → ⊥
Holds e held only_these =
    (other : Plan) → Fairest e.compare (tasks e) (cores e) (need e) (capacity e) other → (task : ℕ) → task < tasks e
    → total (cores e) other task ≡ total (cores e) held task
Holds e held (free_slots_are amount) = free_slots e held ≡ amount
Holds e held (fairer_route along through) =
    Route (tasks e) (cores e) (need e) held (length through) (listed along) (listed through)
    × ((after : Plan) → Exchanged (tasks e) (cores e) (length through) (listed along) (listed through) held after
    → Fairer e.compare (tasks e) (cores e) (need e) after held)

-- the test of a claim
abbrev pub tested : Example → Plan → Claim → Bool
tested e held fairest = is_fairest e.compare (tasks e) (cores e) (need e) (capacity e) held
tested e held not_fairest = not (is_fairest e.compare (tasks e) (cores e) (need e) (capacity e) held)
tested e held only_these = is_fairest e.compare (tasks e) (cores e) (need e) (capacity e) held && is_only e.compare (tasks e) (cores e) (need e) held
tested e held (free_slots_are amount) = free_slots e held == amount
tested e held (fairer_route along through) =
    is_feasible (tasks e) (cores e) (need e) (capacity e) held
    && (is_route (tasks e) (cores e) (need e) held (length through) (listed along) (listed through)
    && should_gain e.compare (share_of (cores e) (need e) held (listed along 0)) (share_of (cores e) (need e) held (listed along (length through))))

-- over a list
abbrev pub Every : {X : Type 0} → (X → Type 0) → List X → Type 0
Every P [] = Unit {0}
Every P (x ∷ xs) = P x × Every P xs

abbrev pub every : {X : Type 0} → (X → Bool) → List X → Bool
every p [] = true
every p (x ∷ xs) = p x && every p xs

-- all that is claimed of the plans of an example holds
abbrev pub Agrees : Example → Type 0
Agrees e = Every (λ plan. Every (Holds e (table plan.slots)) plan.claims) e.plans

abbrev pub agrees : Example → Bool
agrees e =
    all_to (tasks e) (λ task. nat_le (total (cores e) (need e) task) most_counted)
    && every (λ plan. every (tested e (table plan.slots)) plan.claims) e.plans
