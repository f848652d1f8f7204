-- The worked plans, by computation.
use Rattle.std.proofs.Common.{◌≡◌, Bool, true, leb, List, [], ◌∷◌, length, refl}
use Rattle.std.proofs.lemmas.Bool.{and_parts, not-true, leb-true, eqb-true}
use Rattle.fairness.specs.Plans.{Plan, total}
use Rattle.fairness.specs.Laws.{most_counted}
use Rattle.fairness.specs.Levels.{Countable}
use Rattle.fairness.specs.Decision.{layer, is_feasible, is_fairest, is_only, is_route}
use Rattle.fairness.proofs.Sums.{all-has}
use Rattle.fairness.proofs.Decision.{feasible-from, fairest-decided, only_these, route-from}
use Rattle.fairness.proofs.Theorems.{exchange-fairer}
use Rattle.rules.specs.Claims as claims
use Rattle.rules.specs.Claims.{Claim, Example, Holds, tested, Every, every, Agrees, agrees, table, tasks, cores, need, capacity, listed}
use Rattle.rules.specs.WorkedPlans.{examples, WorkedPlansAgree}

-- a test that passes on a list passes on each element
every-from : {X : Type 0} (P : X → Type 0) (p : X → Bool) → ((x : X) → p x ≡ true → P x) → (xs : List X) → every p xs ≡ true → Every P xs
every-from P p h [] e = tt
every-from P p h (x ∷ xs) e = let y = and_parts (p x) (every p xs) e in (h x y.0, every-from P p h xs y.1)

tested-holds : (e : Example) → Countable (tasks e) (cores e) (need e) → (held : Plan) (claim : Claim) → tested e held claim ≡ true → Holds e held claim
tested-holds e few held claims.fairest h = (fairest-decided e.compare e.lawful (tasks e) (cores e) (need e) (capacity e) few held).0 h
tested-holds e few held claims.not_fairest h = (fairest-decided e.compare e.lawful (tasks e) (cores e) (need e) (capacity e) few held).1 (not-true _ h)
tested-holds e few held claims.only_these h =
    let x = and_parts (is_fairest e.compare (tasks e) (cores e) (need e) (capacity e) held) (is_only e.compare (tasks e) (cores e) (need e) held) h in
    only_these e.compare e.lawful (tasks e) (cores e) (need e) (capacity e) few held
    ((fairest-decided e.compare e.lawful (tasks e) (cores e) (need e) (capacity e) few held).0 x.0) x.1
tested-holds e few held (claims.free_slots_are amount) h = eqb-true _ _ h
tested-holds e few held (claims.fairer_route along through) h =
    let x = and_parts (is_feasible (tasks e) (cores e) (need e) (capacity e) held) _ h in
    let y = and_parts (is_route (tasks e) (cores e) (need e) held (length through) (listed along) (listed through)) _ x.1 in
    let route = route-from (tasks e) (cores e) (need e) held (length through) (listed along) (listed through) y.0 in (
      route,
      λ after made.
          (exchange-fairer e.compare e.lawful (tasks e) (cores e) (need e) (capacity e) few held after
          (feasible-from (tasks e) (cores e) (need e) (capacity e) held x.0)
          (record { steps = length through; at = listed along; through = listed through; route = route; passes = y.1; exchanged = made })
          ).1,
    )

example-agrees : (e : Example) → agrees e ≡ true → Agrees e
example-agrees e h =
    let x = and_parts _ (every (λ plan. every (tested e (table plan.slots)) plan.claims) e.plans) h in
    let few : Countable (tasks e) (cores e) (need e) = λ task l. leb-true _ _ (all-has (tasks e) (λ task. leb (total (cores e) (need e) task) most_counted) x.0 task l) in
    every-from _ _ (λ plan g. every-from _ _ (λ claim. tested-holds e few (table plan.slots) claim) plan.claims g) e.plans x.1

all_tested : every agrees examples ≡ true
unfolding layer
all_tested = refl

pub worked-plans-agree : WorkedPlansAgree
worked-plans-agree = every-from Agrees agrees example-agrees examples all_tested
