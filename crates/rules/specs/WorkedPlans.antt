-- Worked plans: small boards, and what is claimed of plans on them.
use Rattle.std.specs.Prelude.{ℕ, List, [], ◌∷◌, map}
use Rattle.fairness.specs.Even.{even}
use Rattle.fairness.proofs.Standings.{even-lawful}
use Rattle.rules.specs.Comparisons.{weighted, by_need}
use Rattle.rules.specs.Lawful.{weighted-lawful, by-need-lawful}
use Rattle.rules.specs.Claims.{Claim, fairest, not_fairest, only_these, free_slots_are, fairer_route, WorkedPlan, Example, Every, Agrees}

-- numbers by task, where there is one core
abbrev pub on_one_core : List ℕ → List (List ℕ)
on_one_core numbers = map (λ x. x ∷ []) numbers

-- a row of two cores
abbrev pub row : ℕ → ℕ → List ℕ
row x y = x ∷ y ∷ []

abbrev pub plan : List (List ℕ) → List Claim → WorkedPlan
plan slots claims = record { slots = slots; claims = claims }

abbrev pub evenly : List ℕ → List (List ℕ) → List WorkedPlan → Example
evenly capacities needs plans = record { compare = even; lawful = even-lawful; capacities = capacities; needs = needs; plans = plans }

abbrev pub by_weights : List ℕ → List ℕ → List (List ℕ) → List WorkedPlan → Example
by_weights weights capacities needs plans =
    record { compare = weighted weights; lawful = weighted-lawful weights; capacities = capacities; needs = needs; plans = plans }

abbrev pub by_whole_need : List ℕ → List (List ℕ) → List WorkedPlan → Example
by_whole_need capacities needs plans = record { compare = by_need; lawful = by-need-lawful; capacities = capacities; needs = needs; plans = plans }

abbrev pub examples : List Example
examples =
    -- a small need is met in full, and the rest is shared: which task has the odd slots is open
    evenly (20 ∷ []) (on_one_core (8 ∷ 4 ∷ 10 ∷ 40 ∷ [])) (
    plan (on_one_core (5 ∷ 4 ∷ 5 ∷ 6 ∷ [])) (fairest ∷ free_slots_are 0 ∷ [])
    ∷ plan (on_one_core (6 ∷ 4 ∷ 5 ∷ 5 ∷ [])) (fairest ∷ free_slots_are 0 ∷ [])
    ∷ plan (on_one_core (5 ∷ 4 ∷ 6 ∷ 5 ∷ [])) (fairest ∷ free_slots_are 0 ∷ [])
    ∷ plan (on_one_core (5 ∷ 3 ∷ 6 ∷ 6 ∷ [])) (not_fairest ∷ free_slots_are 0 ∷ [])
    ∷ [])
    -- a slot that nobody needs stays free
    ∷ evenly (row 4 3) (row 3 1 ∷ row 0 2 ∷ []) (plan (row 3 1 ∷ row 0 2 ∷ []) (fairest ∷ free_slots_are 1 ∷ []) ∷ [])
    -- cores are shared together, not each by itself
    ∷ evenly (row 3 3) (row 3 0 ∷ row 3 3 ∷ []) (
    plan (row 3 0 ∷ row 0 3 ∷ []) (fairest ∷ only_these ∷ free_slots_are 0 ∷ [])
    ∷ plan (row 1 0 ∷ row 2 3 ∷ []) (not_fairest ∷ [])
    ∷ plan (row 2 0 ∷ row 1 3 ∷ []) (not_fairest ∷ [])
    ∷ [])
    -- two fairest plans
    ∷ evenly (row 2 2) (row 1 1 ∷ row 2 0 ∷ []) (
    plan (row 0 1 ∷ row 2 0 ∷ []) (fairest ∷ []) ∷ plan (row 1 1 ∷ row 1 0 ∷ []) (fairest ∷ []) ∷ [])
    -- one slot apart may be fairest, two apart is not
    ∷ evenly (7 ∷ []) (on_one_core (7 ∷ 7 ∷ [])) (plan (on_one_core (3 ∷ 4 ∷ [])) (fairest ∷ []) ∷ [])
    ∷ evenly (8 ∷ []) (on_one_core (8 ∷ 8 ∷ [])) (plan (on_one_core (3 ∷ 5 ∷ [])) (not_fairest ∷ []) ∷ [])
    -- tasks that share a core are one apart, and yet a route over two cores makes the plan fairer
    ∷ evenly (row 2 4) (row 2 0 ∷ row 2 4 ∷ row 0 4 ∷ []) (
    plan (row 1 0 ∷ row 1 1 ∷ row 0 3 ∷ []) (not_fairest ∷ free_slots_are 0 ∷ fairer_route (0 ∷ 1 ∷ 2 ∷ []) (0 ∷ 1 ∷ []) ∷ []) ∷ [])
    -- both stand level without the slot, but a slot lifts the task of the smaller weight higher
    ∷ by_weights (1 ∷ 2 ∷ []) (1 ∷ []) (on_one_core (1 ∷ 1 ∷ [])) (
    plan (on_one_core (1 ∷ 0 ∷ [])) (fairest ∷ only_these ∷ []) ∷ plan (on_one_core (0 ∷ 1 ∷ [])) (not_fairest ∷ []) ∷ [])
    -- by need, each task has the same part of its whole need
    ∷ by_whole_need (6 ∷ []) (on_one_core (4 ∷ 8 ∷ [])) (plan (on_one_core (2 ∷ 4 ∷ [])) (fairest ∷ []) ∷ [])
    ∷ []

abbrev pub WorkedPlansAgree : Type 0
WorkedPlansAgree = Every Agrees examples
