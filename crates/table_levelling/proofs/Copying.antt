-- Each step of copying is accepted, and what it comes to.
use Rattle.std.proofs.Common.{◌≡◌, ℕ, ◌+◌, ◌*◌, ◌<◌, ◌≤◌, min, max, sym, refl, ap, ◌∙◌, subst, arith}
use mathlib.Core.Path.{fun_ext}
use Rattle.fairness.specs.Plans.{Plan, given}
use Rattle.fairness.proofs.Sums.{sum-le, sum-zero}
use Rattle.board.specs.Meaning.{Meaning, Sound, planned, given_at, put, with_held}
use Rattle.board.specs.Outcomes.{done, after, set_need, set_held, set_capacity}
use Rattle.board.proofs.Changes.{done-capacity, done-need, done_held, given-put}
use Rattle.table_board.proofs.Pairs.{pairs_below}
use Rattle.table_levelling.specs.Copies.{tasks_to, row_to, capacities_to, pairwise, ordered, Roomy, Holds, Reachable}
use Rattle.std.proofs.lemmas.Bool.Decides.{nat_tests}
use Rattle.table_levelling.proofs.Mixtures.{capacities-start, capacities-put, capacities-all, row-start, row_put, row_here, row-le, tasks-here, tasks-change, tasks-start, tasks-row, tasks-all}

-- a plan that lies below one with room at the core can be given any slots at a pair that this one has
pub held-done : (m : Meaning) (most : Plan) (task core amount : ℕ) → task < m.tasks → core < m.cores → amount ≤ m.need task core → amount ≤ most task core
    → given m.tasks most core ≤ m.capacity core → ((t c : ℕ) → m.held t c ≤ most t c) → set_held m task core amount ≡ done (with_held m task core amount)
held-done m most task core amount tn cm within inside room below =
    let under : given_at (with_held m task core amount) core ≤ given m.tasks most core
    = sum-le m.tasks (λ t. put m.held task core amount t core) (λ t. most t core) (λ t _. grind (arith, nat_tests, below t core)) in
    done_held m task core amount tn cm within (omega (arith, under, given-put m task core amount tn))

capacity-beyond : (m : Meaning) → Sound m → (core : ℕ) → m.cores ≤ core → m.capacity core ≡ 0
capacity-beyond m so core out = omega (arith, so.capped core, so.no_core core out)

held-beyond-tasks : (m : Meaning) → Sound m → (task core : ℕ) → m.tasks ≤ task → m.held task core ≡ 0
held-beyond-tasks m so task core out = omega (arith, so.covered task core, so.beyond_tasks task core out)

held-beyond-cores : (m : Meaning) → Sound m → (task core : ℕ) → m.cores ≤ core → m.held task core ≡ 0
held-beyond-cores m so task core out = omega (arith, so.covered task core, so.beyond_cores task core out)

-- capacities

pub capacities-none : (from to : Meaning) → to ≡ ordered to (λ _. 0) (λ _ _. 0) → to ≡ ordered to (capacities_to from.capacity 0) (λ _ _. 0)
capacities-none from to clear = clear ∙ ap (λ z. ordered to z (λ _ _. 0)) (sym (capacities-start from.capacity))

pub capacities-more : (from old m b : Meaning) (core v : ℕ) → Sound from → Roomy from old → core < from.cores → v ≡ from.capacity core
    → m ≡ ordered old (capacities_to from.capacity core) (λ _ _. 0) → b ≡ after m (set_capacity m core v) → b ≡ ordered old (capacities_to from.capacity (core + 1)) (λ _ _. 0)
capacities-more from old m b core v so room inside ve me be =
    let s : Meaning = ordered old (capacities_to from.capacity core) (λ _ _. 0) in
    let e = done-capacity s core (from.capacity core) (omega (arith, room.cores)) (omega (arith, so.capped core, so.low core, room.capacities core inside)) (omega (arith, sum-zero old.tasks)) in
    be ∙ (ap (λ z. after z (set_capacity z core v)) me ∙ (ap (λ z. after s (set_capacity s core z)) ve ∙ (ap (after s) e ∙ ap (λ z. ordered old z (λ _ _. 0)) (capacities-put from.capacity core))))

pub capacities-whole : (from old m : Meaning) (core : ℕ) → Sound from → core ≡ from.cores → m ≡ ordered old (capacities_to from.capacity core) (λ _ _. 0) → m ≡ ordered old from.capacity (λ _ _. 0)
capacities-whole from old m core so e me =
    me ∙ (ap (λ z. ordered old (capacities_to from.capacity z) (λ _ _. 0)) e ∙ ap (λ z. ordered old z (λ _ _. 0)) (capacities-all from.capacity from.cores (capacity-beyond from so)))

-- needs

pub needs-none : (from to : Meaning) (task : ℕ) → to ≡ ordered to to.capacity (tasks_to from.need (λ _ _. 0) task)
    → to ≡ ordered to to.capacity (row_to from.need (tasks_to from.need (λ _ _. 0) task) task 0)
needs-none from to task clear = clear ∙ ap (ordered to to.capacity) (sym (row-start from.need (tasks_to from.need (λ _ _. 0) task) task))

pub needs-more : (from old m b : Meaning) (task core v : ℕ) → Sound from → Roomy from old → task < from.tasks → core < from.cores → v ≡ from.need task core
    → m ≡ ordered old old.capacity (row_to from.need (tasks_to from.need (λ _ _. 0) task) task core) → b ≡ after m (set_need m task core v)
    → b ≡ ordered old old.capacity (row_to from.need (tasks_to from.need (λ _ _. 0) task) task (core + 1))
needs-more from old m b task core v so room tn cm ve me be =
    let base : Plan = tasks_to from.need (λ _ _. 0) task in
    let s : Meaning = ordered old old.capacity (row_to from.need base task core) in
    let ts : task < old.tasks = omega (arith, room.tasks) in
    let cs : core < old.cores = omega (arith, room.cores) in
    let most : old.tasks * old.cores ≡ old.greatest_pairs = ap (λ z. z * old.cores) room.tasks ∙ (ap (λ z. from.tasks * z) room.cores ∙ sym room.pairs) in
    let e = done-need s task core (from.need task core) ts cs (so.small task core) (omega arith)
    (λ some free. omega (arith, most, pairs_below s task core ts cs free)) in
    be ∙ (ap (λ z. after z (set_need z task core v)) me ∙ (ap (λ z. after s (set_need s task core z)) ve ∙ (ap (after s) e ∙ ap (ordered old old.capacity) (row_put from.need base task core))))

pub needs-row : (from old m : Meaning) (task core : ℕ) → Sound from → core ≡ from.cores
    → m ≡ ordered old old.capacity (row_to from.need (tasks_to from.need (λ _ _. 0) task) task core)
    → m ≡ ordered old old.capacity (tasks_to from.need (λ _ _. 0) (task + 1))
needs-row from old m task core so e me =
    me ∙ (ap (λ z. ordered old old.capacity (row_to from.need (tasks_to from.need (λ _ _. 0) task) task z)) e
    ∙ ap (ordered old old.capacity) (tasks-row from.need (λ _ _. 0) from.need task from.cores so.beyond_cores (λ c. refl)))

pub needs-whole : (from old m : Meaning) (task : ℕ) → Sound from → task ≡ from.tasks → m ≡ ordered old old.capacity (tasks_to from.need (λ _ _. 0) task)
    → m ≡ ordered old old.capacity from.need
needs-whole from old m task so e me =
    me ∙ (ap (λ z. ordered old old.capacity (tasks_to from.need (λ _ _. 0) z)) e ∙ ap (ordered old old.capacity) (tasks-all from.need (λ _ _. 0) from.tasks so.beyond_tasks))

-- slots

pub on-tasks : (old m : Meaning) (plan : Plan) → m ≡ planned old plan → m.tasks ≡ old.tasks
on-tasks old m plan me = ap (λ (z : Meaning). z.tasks) me

pub row-none : (new : Plan) (to : Meaning) (task : ℕ) → to ≡ planned to (row_to new to.held task 0)
row-none new to task = ap (planned to) (sym (row-start new to.held task))

pub tasks-none : (new : Plan) (to : Meaning) → to ≡ planned to (tasks_to new to.held 0)
tasks-none new to = ap (planned to) (sym (tasks-start new to.held))

-- one slot count of a row changed
pub change-more : (change : ℕ → ℕ → ℕ) (from old m b : Meaning) (task core : ℕ) → task < old.tasks → core < old.cores → Reachable (pairwise change from.held old.held) old
    → m ≡ planned old (row_to (pairwise change from.held old.held) old.held task core) → b ≡ after m (set_held m task core (pairwise change from.held m.held task core))
    → b ≡ planned old (row_to (pairwise change from.held old.held) old.held task (core + 1))
change-more change from old m b task core tn cm reach me be =
    let new : Plan = pairwise change from.held old.held in
    let most : Plan = pairwise max new old.held in
    let s : Meaning = planned old (row_to new old.held task core) in
    let what : pairwise change from.held s.held task core ≡ new task core = ap (change (from.held task core)) (row_here new old.held task core) in
    let e = held-done s most task core (new task core) tn cm (reach.within task core) (omega arith) (reach.room core cm)
    (row-le new old.held most task core (λ t c. omega arith) (λ t c. omega arith)) in
    be ∙ (ap (λ (z : Meaning). after z (set_held z task core (pairwise change from.held z.held task core))) me
    ∙ (ap (λ z. after s (set_held s task core z)) what ∙ (ap (after s) e ∙ ap (planned old) (row_put new old.held task core))))

pub row-whole : (new : Plan) (old m : Meaning) (task core : ℕ) → core ≡ old.cores → m ≡ planned old (row_to new old.held task core) → m ≡ planned old (row_to new old.held task old.cores)
row-whole new old m task core e me = me ∙ ap (λ z. planned old (row_to new old.held task z)) e

-- one task more: what a row comes to that was made of tasks so far
tasks-more : (new : Plan) (next : Plan → Plan) (old m b : Meaning) (task : ℕ) → ((t c : ℕ) → old.cores ≤ c → new t c ≡ old.held t c)
    → ((c : ℕ) → next (tasks_to new old.held task) task c ≡ new task c)
    → m ≡ planned old (tasks_to new old.held task) → b ≡ planned m (row_to (next m.held) m.held task m.cores) → b ≡ planned old (tasks_to new old.held (task + 1))
tasks-more new next old m b task same here me be =
    be ∙ (ap (λ (z : Meaning). planned z (row_to (next z.held) z.held task z.cores)) me
    ∙ ap (planned old) (tasks-row new old.held (next (tasks_to new old.held task)) task old.cores same here))

-- what is reached lies on the board
off-cores : (to : Meaning) (plan : Plan) → Sound to → Reachable plan to → (t c : ℕ) → to.cores ≤ c → plan t c ≡ to.held t c
off-cores to plan so reach t c out = omega (arith, reach.within t c, so.beyond_cores t c out, held-beyond-cores to so t c out)

off-tasks : (to : Meaning) (plan : Plan) → Sound to → Reachable plan to → (t c : ℕ) → to.tasks ≤ t → plan t c ≡ to.held t c
off-tasks to plan so reach t c out = omega (arith, reach.within t c, so.beyond_tasks t c out, held-beyond-tasks to so t c out)

pub change-tasks-more : (change : ℕ → ℕ → ℕ) (from old m b : Meaning) (task : ℕ) → Sound old → Reachable (pairwise change from.held old.held) old
    → m ≡ planned old (tasks_to (pairwise change from.held old.held) old.held task)
    → b ≡ planned m (row_to (pairwise change from.held m.held) m.held task m.cores) → b ≡ planned old (tasks_to (pairwise change from.held old.held) old.held (task + 1))
change-tasks-more change from old m b task so reach me be =
    let new : Plan = pairwise change from.held old.held in
    tasks-more new (pairwise change from.held) old m b task (off-cores old new so reach) (λ c. ap (change (from.held task c)) (tasks-here new old.held task c)) me be

pub change-whole : (change : ℕ → ℕ → ℕ) (from old m : Meaning) (task : ℕ) → Sound old → Reachable (pairwise change from.held old.held) old → task ≡ old.tasks
    → m ≡ planned old (tasks_to (pairwise change from.held old.held) old.held task) → m ≡ planned old (pairwise change from.held old.held)
change-whole change from old m task so reach e me =
    let new : Plan = pairwise change from.held old.held in
    me ∙ (ap (λ z. planned old (tasks_to new old.held z)) e ∙ ap (planned old) (tasks-all new old.held old.tasks (off-tasks old new so reach)))

-- the plan can still be reached when some tasks have gone over to it
pub reach-on : (change : ℕ → ℕ → ℕ) (from old m : Meaning) (task : ℕ) → ((a b : ℕ) → change a (change a b) ≡ change a b)
    → m ≡ planned old (tasks_to (pairwise change from.held old.held) old.held task) → Reachable (pairwise change from.held old.held) old → Reachable (pairwise change from.held m.held) m
reach-on change from old m task settled me reach =
    let new : Plan = pairwise change from.held old.held in
    let mixed : Plan = tasks_to new old.held task in
    let same : pairwise change from.held mixed ≡ new = fun_ext (λ t. fun_ext (λ c. tasks-change change from.held old.held settled task t c)) in
    let P : Meaning → Type 0 = λ z. Reachable (pairwise change from.held z.held) z in
    let Q : Plan → Type 0 = λ z. Reachable z (planned old mixed) in
    let lower : (core : ℕ) → given old.tasks (pairwise max new mixed) core ≤ given old.tasks (pairwise max new old.held) core =
    λ core. sum-le old.tasks (λ t. max (new t core) (mixed t core)) (λ t. max (new t core) (old.held t core)) (λ t _. grind (arith, nat_tests)) in
    subst P (sym me) (subst Q (sym same) (record { within = reach.within; room = λ core l. omega (arith, lower core, reach.room core l) }))

-- slots can fall, and they can rise to those of a feasible plan that has no fewer
pub lower-reach : (from to : Meaning) → Sound to → Reachable (pairwise min from.held to.held) to
lower-reach from to so = record {
  within = λ t c. omega (arith, so.covered t c);
  room = λ c l. omega (arith, so.fits c l, sum-le to.tasks (λ t. max (min (from.held t c) (to.held t c)) (to.held t c)) (λ t. to.held t c) (λ t _. omega arith));
}

pub raise-reach : (from old m : Meaning) → Holds from old → m ≡ planned old (pairwise min from.held old.held) → Reachable from.held m
raise-reach from old m holds me =
    let P : Meaning → Type 0 = λ z. Reachable from.held z in
    let low : Plan = pairwise min from.held old.held in
    subst P (sym me) (record {
      within = holds.within;
      room = λ c l. omega (arith, holds.room c l, sum-le old.tasks (λ t. max (from.held t c) (low t c)) (λ t. from.held t c) (λ t _. omega arith));
    })

-- to is as roomy as it was, and each task starts where the one before it ended

pub needs-start : (from to : Meaning) → to ≡ ordered to to.capacity (λ _ _. 0) → to ≡ ordered to to.capacity (tasks_to from.need (λ _ _. 0) 0)
needs-start from to clear = clear ∙ ap (ordered to to.capacity) (sym (tasks-start from.need (λ _ _. 0)))

pub room-on : (from old m : Meaning) (capacity : ℕ → ℕ) (plan : Plan) → m ≡ ordered old capacity plan → Roomy from old → Roomy from m
room-on from old m capacity plan me room = let P : Meaning → Type 0 = λ z. Roomy from z in
    subst P (sym me) (record { tasks = room.tasks; cores = room.cores; pairs = room.pairs; capacities = room.capacities })

pub ordered-again : (old m : Meaning) (capacity : ℕ → ℕ) (plan : Plan) → m ≡ ordered old capacity plan → m ≡ ordered m m.capacity plan
ordered-again old m capacity plan me = let P : Meaning → Type 0 = λ z. z ≡ ordered z z.capacity plan in subst P (sym me) refl

pub ordered-on : (old m b : Meaning) (plan next : Plan) → m ≡ ordered old old.capacity plan → b ≡ ordered m m.capacity next → b ≡ ordered old old.capacity next
ordered-on old m b plan next me be = be ∙ ap (λ (z : Meaning). ordered z z.capacity next) me

pub planned-on : (old m b : Meaning) (plan next : Plan) → m ≡ planned old plan → b ≡ planned m next → b ≡ planned old next
planned-on old m b plan next me be = be ∙ ap (λ (z : Meaning). planned z next) me
