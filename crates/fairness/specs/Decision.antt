-- Computations that tell whether a plan is fairest, whether other totals are, and whether steps make a route.
use Rattle.std.specs.Prelude.{◌≡◌, ℕ, zero, suc, ◌-◌, Bool, true, false, cond, not, ◌&&◌, ◌||◌, ◌==◌, nat_eq, nat_le, nat_lt}
use Rattle.std.specs.Ordering.{is_le}
use Rattle.fairness.specs.declared.Share.{Share}
use Rattle.fairness.specs.Sums.{sum_to, all_to, some_to}
use Rattle.fairness.specs.Plans.{Plan, given, total}
use Rattle.fairness.specs.Laws.{Comparison, Lawful}
use Rattle.fairness.specs.Levels.{share_with, share_of, Fairest, Countable}
use Rattle.fairness.specs.Routes.{should_gain}

abbrev pub is_feasible : ℕ → ℕ → Plan → (ℕ → ℕ) → Plan → Bool
is_feasible n m need capacity held =
    all_to n (λ task. all_to m (λ core. nat_le (held task core) (need task core))) && all_to m (λ core. nat_le (given n held core) (capacity core))

-- the task needs more of a core of which the holder has slots
abbrev pub leads : ℕ → Plan → Plan → ℕ → ℕ → Bool
leads m need held task holder = some_to m (λ core. nat_lt (held task core) (need task core) && nat_lt 0 (held holder core))

-- the tasks to which so many steps lead, or fewer, from the first task
unfoldable pub layer : ℕ → ℕ → Plan → Plan → ℕ → ℕ → ℕ → Bool
layer n m need held first zero task = task == first
layer n m need held first (suc steps) task =
    layer n m need held first steps task || some_to n (λ before. layer n m need held first steps before && leads m need held before task)

-- a task cannot take a free slot of a core: it has what it needs, or the core has none
abbrev pub takes_none : ℕ → Plan → (ℕ → ℕ) → Plan → ℕ → ℕ → Bool
takes_none n need capacity held task core = nat_le (need task core) (held task core) || nat_le (capacity core) (given n held core)

-- the other task should lose no slot to the task: it has none, or the test fails
abbrev pub loses_none : Comparison → ℕ → Plan → Plan → ℕ → ℕ → Bool
loses_none compare m need held task other = total m held other == 0 || not (should_gain compare (share_of m need held task) (share_of m need held other))

-- no task that is reached could take a free slot or should lose one to it
abbrev pub is_safe : Comparison → ℕ → ℕ → Plan → (ℕ → ℕ) → Plan → ℕ → Bool
is_safe compare n m need capacity held task = all_to n (λ other.
    not (layer n m need held task n other) || (all_to m (takes_none n need capacity held other) && loses_none compare m need held task other))

abbrev pub is_fairest : Comparison → ℕ → ℕ → Plan → (ℕ → ℕ) → Plan → Bool
is_fairest compare n m need capacity held =
    is_feasible n m need capacity held && all_to n (λ task. nat_le (total m need task) (total m held task) || is_safe compare n m need capacity held task)

abbrev pub FairestDecided : Type 0
FairestDecided =
    (compare : Comparison) → Lawful compare → (n m : ℕ) (need : Plan) (capacity : ℕ → ℕ) → Countable n m need → (held : Plan)
    → (is_fairest compare n m need capacity held ≡ true → Fairest compare n m need capacity held)
    × (is_fairest compare n m need capacity held ≡ false → Fairest compare n m need capacity held → ⊥)

-- the tasks at or below a level, where the tasks have these whole needs and totals
abbrev pub count_at : Comparison → ℕ → (ℕ → ℕ) → (ℕ → ℕ) → Share → ℕ
count_at compare n whole totals level = sum_to n (λ task. cond (is_le (compare (share_with whole task (totals task)) level)) 1 0)

-- equally many at or below each level that a task has with either totals
abbrev pub same_counts : Comparison → ℕ → (ℕ → ℕ) → (ℕ → ℕ) → (ℕ → ℕ) → Bool
same_counts compare n whole first second = all_to n (λ task.
    (count_at compare n whole first (share_with whole task (first task)) == count_at compare n whole second (share_with whole task (first task)))
    && count_at compare n whole first (share_with whole task (second task)) == count_at compare n whole second (share_with whole task (second task)))

abbrev pub with_total : (ℕ → ℕ) → ℕ → ℕ → ℕ → ℕ
with_total totals task amount t = cond (t == task) amount (totals t)

-- all totals pass that differ from the given ones by at most one for each of the first tasks, and are the others' for the rest
abbrev pub all_near : ℕ → (ℕ → ℕ) → (ℕ → ℕ) → ((ℕ → ℕ) → Bool) → Bool
all_near zero totals others passes = passes others
all_near (suc k) totals others passes =
    all_near k totals (with_total others k (totals k - 1)) passes
    && (all_near k totals (with_total others k (totals k)) passes && all_near k totals (with_total others k (suc (totals k))) passes)

-- no other totals within one have the same levels
abbrev pub is_only : Comparison → ℕ → ℕ → Plan → Plan → Bool
is_only compare n m need held = all_near n (total m held) (total m held) (λ others.
    all_to n (λ task. nat_eq (others task) (total m held task)) || not (same_counts compare n (total m need) (total m held) others))

abbrev pub is_route : ℕ → ℕ → Plan → Plan → ℕ → (ℕ → ℕ) → (ℕ → ℕ) → Bool
is_route n m need held steps at through =
    nat_lt 0 steps
    && (all_to (suc steps) (λ s. nat_lt (at s) n)
    && (all_to steps (λ s. nat_lt (through s) m)
    && (all_to steps (λ s. nat_lt (held (at s) (through s)) (need (at s) (through s)))
    && (all_to steps (λ s. nat_lt 0 (held (at (suc s)) (through s)))
    && (all_to (suc steps) (λ s. all_to s (λ r. not (at r == at s)))
    && all_to steps (λ s. all_to s (λ r. not (through r == through s))))))))
