-- The amounts of the pairs before a pair, as they are filled in one after another.
use Rattle.std.proofs.Common.{◌≡◌, ℕ, suc, ◌≤◌, true, cond, ◌&&◌, ◌||◌, eqb, ltb, Some, None, Option, refl, arith}
use Rattle.std.proofs.lemmas.Bool.Decides.{nat_tests}
use Rattle.fairness.specs.Plans.{Plan}
use Rattle.board.specs.Meaning.{put}
use Rattle.sections.specs.declared.state.Pair.{Pair}
use Rattle.sections.specs.Turns.{follows}

-- the amounts of all pairs before (task, core), and 0 from there on
abbrev pub up_to : ℕ → ℕ → Plan → Plan
up_to task core plan a b = cond (ltb a task || (eqb a task && ltb b core)) (plan a b) 0

-- with one more pair of the plan filled in, it still keeps within it
pub put-within : (task core : ℕ) (plan : Plan) (a b : ℕ) → put (up_to task core plan) task core (plan task core) a b ≤ plan a b
put-within task core plan a b = grind (arith, nat_tests)

pub up-to-none : (plan : Plan) → up_to 0 0 plan ≡ (λ _ _. 0)
up-to-none plan i a b = none a b i
  where
    none : (a b : ℕ) → up_to 0 0 plan a b ≡ 0
    none a b = grind (arith, nat_tests)

pub up-to-more : (task core : ℕ) (plan : Plan) → put (up_to task core plan) task core (plan task core) ≡ up_to task (suc core) plan
up-to-more task core plan i a b = more a b i
  where
    more : (a b : ℕ) → put (up_to task core plan) task core (plan task core) a b ≡ up_to task (suc core) plan a b
    more a b = grind (arith, nat_tests)

-- a pair without an amount changes nothing
pub up-to-same : (task core : ℕ) (plan : Plan) → plan task core ≤ 0 → up_to task core plan ≡ up_to task (suc core) plan
up-to-same task core plan empty i a b = same a b i
  where
    same : (a b : ℕ) → up_to task core plan a b ≡ up_to task (suc core) plan a b
    same a b = grind (arith, nat_tests)

-- a task's last pair
pub up-to-next : (task cores : ℕ) (plan : Plan) → ((a b : ℕ) → cores ≤ b → plan a b ≡ 0) → up_to task cores plan ≡ up_to (suc task) 0 plan
up-to-next task cores plan beyond i a b = next a b i
  where
    next : (a b : ℕ) → up_to task cores plan a b ≡ up_to (suc task) 0 plan a b
    next a b = grind (arith, nat_tests, beyond a b)

pub up-to-all : (tasks : ℕ) (plan : Plan) → ((a b : ℕ) → tasks ≤ a → plan a b ≡ 0) → up_to tasks 0 plan ≡ plan
up-to-all tasks plan beyond i a b = all a b i
  where
    all : (a b : ℕ) → up_to tasks 0 plan a b ≡ plan a b
    all a b = grind (arith, nat_tests, beyond a b)

-- the pair before comes before a pair
abbrev pub Before : Option Pair → ℕ → ℕ → Type 0
Before last task core = follows (record { task = task; core = core }) last ≡ true

pub before-core : (last : Option Pair) (task core : ℕ) → Before last task core → Before last task (suc core)
before-core None task core h = refl
before-core (Some pair) task core h = grind (arith, nat_tests)

pub before-task : (last : Option Pair) (task core : ℕ) → Before last task core → Before last (suc task) 0
before-task None task core h = refl
before-task (Some pair) task core h = grind (arith, nat_tests)

pub before_self : (task core : ℕ) → Before (Some (record { task = task; core = core })) task (suc core)
before_self task core = grind (arith, nat_tests)
