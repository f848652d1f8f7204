-- What each step of a pair board does to its meaning, and that its memory still serves.
use Rattle.std.proofs.Common.{◌≡◌, ℕ, zero, suc, ◌+◌, ◌*◌, ◌<◌, ◌≤◌, min, false, cond, ◌&&◌, eqb, ltb, leb, List, length, get_or, set, replicate, sym, refl, ap, ◌∙◌, inl, inr, arith, length-set}
use mathlib.Core.Path.{fun_ext}
use Rattle.std.proofs.lemmas.List.{get_or-set_same, get_or-set_other}
use Rattle.std.proofs.lemmas.Bool.Decides.{nat_tests}
use Rattle.std.proofs.lemmas.Bool.{cases_eq}
use Rattle.fairness.specs.Sums.{sum_to}
use Rattle.board.specs.Meaning.{Meaning, most_slots, needed, pair_count, new_board, with_need, with_held, with_capacity}
use Rattle.board.specs.Boards.{Good}
use Rattle.board.proofs.Bounds.{sum-none}
use Rattle.board.proofs.Changes.{pairs-put}
use Rattle.pair_board.specs.declared.entry.Entry.{Entry}
use Rattle.pair_board.specs.declared.PairBoard.{PairBoard}
use Rattle.pair_board.specs.Entries.{entry_at, amounts, Absent, At, Serving}
use Rattle.pair_board.specs.Pairs.{pairs, taken, pair_build}
use Rattle.pair_board.proofs.Lookups.{is-task, is-core, absent_none, at-found, put_same}
use Rattle.pair_board.proofs.Writes.{changed, changed-serving, added, added-serving, removed, removed-serving}

abbrev pub with_entry_need : Entry → ℕ → Entry
with_entry_need entry amount = record { task = entry.task; core = entry.core; need = amount; held = entry.held }

abbrev pub with_entry_held : Entry → ℕ → Entry
with_entry_held entry amount = record { task = entry.task; core = entry.core; need = entry.need; held = amount }

-- a number put where it stands already
pub need-stands : (m : Meaning) (task core amount : ℕ) → m.need task core ≡ amount → m ≡ with_need m task core amount
need-stands m task core amount e =
    let same = put_same m.need task core amount e in
    λ j. record { tasks = m.tasks; cores = m.cores; capacity = m.capacity; need = sym same j; held = m.held; greatest_pairs = m.greatest_pairs; greatest_capacity = m.greatest_capacity }

pub held-stands : (m : Meaning) (task core amount : ℕ) → m.held task core ≡ amount → m ≡ with_held m task core amount
held-stands m task core amount e =
    let same = put_same m.held task core amount e in
    λ j. record { tasks = m.tasks; cores = m.cores; capacity = m.capacity; need = m.need; held = sym same j; greatest_pairs = m.greatest_pairs; greatest_capacity = m.greatest_capacity }

-- the parts of a meaning that a write into the list can change
made_of : (n m : ℕ) (capacities : List ℕ) (used now : ℕ) (entries fresh : List Entry) (need held : ℕ → ℕ → ℕ) → length fresh ≡ length entries
    → amounts (λ entry. entry.need) fresh now ≡ need → amounts (λ entry. entry.held) fresh now ≡ held
    → pairs n m now capacities fresh ≡ record {
      tasks = n;
      cores = m;
      capacity = λ core. cond (ltb core m) (get_or capacities core 0) 0;
      need = need;
      held = held;
      greatest_pairs = min (length entries) (n * m);
      greatest_capacity = λ core. cond (ltb core m) most_slots 0;
    }
made_of n m capacities used now entries fresh need held long needs helds =
    let most : min (length fresh) (n * m) ≡ min (length entries) (n * m) = ap (λ x. min x (n * m)) long in
    λ j. record {
      tasks = n;
      cores = m;
      capacity = λ core. cond (ltb core m) (get_or capacities core 0) 0;
      need = needs j;
      held = helds j;
      greatest_pairs = most j;
      greatest_capacity = λ core. cond (ltb core m) most_slots 0;
    }

module _ (n m used : ℕ) (capacities : List ℕ) (entries : List Entry) (serving : Serving n m entries used) (fits : used ≤ length entries) (task core : ℕ) where
  abbrev before : Meaning
  before = pairs n m used capacities entries

  module _ (here : ℕ) (found : At entries used task core here) (amount : ℕ) where
    abbrev old : Entry
    old = entry_at entries here

    old-task : old.task ≡ task
    old-task = is-task old task core found.1

    old-core : old.core ≡ core
    old-core = is-core old task core found.1

    pub need-there : before.need task core ≡ old.need
    need-there = at-found (λ entry. entry.need) n m entries used task core here serving found

    pub held-there : before.held task core ≡ old.held
    held-there = at-found (λ entry. entry.held) n m entries used task core here serving found

    pub need-changed : 0 < amount → pairs n m used capacities (set entries here (with_entry_need old amount)) ≡ with_need before task core amount
    need-changed some =
        let changes = changed n m entries used here (with_entry_need old amount) task core serving found fits old-task old-core some in
        made_of n m capacities used used entries (set entries here (with_entry_need old amount)) _ _ (length-set entries here (with_entry_need old amount))
        (changes (λ entry. entry.need))
        (changes (λ entry. entry.held) ∙ put_same before.held task core old.held held-there)

    pub need-changed-serving : 0 < amount → Serving n m (set entries here (with_entry_need old amount)) used
    need-changed-serving some = changed-serving n m entries used here (with_entry_need old amount) task core serving found fits old-task old-core some

    pub held-changed : pairs n m used capacities (set entries here (with_entry_held old amount)) ≡ with_held before task core amount
    held-changed =
        let changes = changed n m entries used here (with_entry_held old amount) task core serving found fits old-task old-core (serving.some here found.0) in
        made_of n m capacities used used entries (set entries here (with_entry_held old amount)) _ _ (length-set entries here (with_entry_held old amount))
        (changes (λ entry. entry.need) ∙ put_same before.need task core old.need need-there)
        (changes (λ entry. entry.held))

    pub held-changed-serving : Serving n m (set entries here (with_entry_held old amount)) used
    held-changed-serving = changed-serving n m entries used here (with_entry_held old amount) task core serving found fits old-task old-core (serving.some here found.0)

  module _ (here last : ℕ) (found : At entries used task core here) (is_last : last + 1 ≡ used) where
    pub pair-removed : before.held task core ≡ 0 → pairs n m last capacities (set entries here (entry_at entries last)) ≡ with_need before task core 0
    pair-removed none =
        made_of n m capacities used last entries (set entries here (entry_at entries last)) _ _ (length-set entries here (entry_at entries last))
        (removed n m entries used here last task core serving found fits is_last (λ entry. entry.need))
        (removed n m entries used here last task core serving found fits is_last (λ entry. entry.held) ∙ put_same before.held task core 0 none)

    pub pair-removed-serving : Serving n m (set entries here (entry_at entries last)) last
    pair-removed-serving = removed-serving n m entries used here last task core serving found fits is_last

  module _ (absent : Absent entries used task core) (room : used < length entries) (amount : ℕ) where
    abbrev new : Entry
    new = record { task = task; core = core; need = amount; held = 0 }

    pub pair-added : pairs n m (used + 1) capacities (set entries used new) ≡ with_need before task core amount
    pair-added =
        let adds = added n m entries used new task core serving absent room refl refl in
        made_of n m capacities used (used + 1) entries (set entries used new) _ _ (length-set entries used new)
        (adds (λ entry. entry.need))
        (adds (λ entry. entry.held) ∙ put_same before.held task core 0 (absent_none (λ entry. entry.held) entries used task core absent))

    pub pair-added-serving : task < n → core < m → 0 < amount → Serving n m (set entries used new) (used + 1)
    pair-added-serving = added-serving n m entries used new task core serving absent room refl refl

-- how many pairs have a need, after one changed
pub recounted : (m changed : Meaning) (task core amount : ℕ) → task < m.tasks → core < m.cores → changed ≡ with_need m task core amount
    → pair_count changed + needed (m.need task core) ≡ pair_count m + needed amount
recounted m changed task core amount tn cm is = ap (λ x. pair_count x + needed (m.need task core)) is ∙ pairs-put m task core amount tn cm

-- a pair that passed as a new one has room
pub room-left : (amount need most count : ℕ) → (ltb 0 amount && eqb need 0 && leb most count) ≡ false → 0 < amount → need ≡ 0 → count < most
room-left amount need most count passed some none = grind (arith, nat_tests)

pub in_list : (b : PairBoard) → Good pair_build b → b.used ≤ taken b
in_list b good = omega (arith, good.serves.counted, good.sound.few_pairs)

-- the capacities
pub capacity-changed : (n m used : ℕ) (capacities : List ℕ) (entries : List Entry) (core amount : ℕ) → core < m → m ≤ length capacities
    → pairs n m used (set capacities core amount) entries ≡ with_capacity (pairs n m used capacities entries) core amount
capacity-changed n m used capacities entries core amount cm long =
    let caps : ◌≡◌ {A = ℕ → ℕ} (λ c. cond (ltb c m) (get_or (set capacities core amount) c 0) 0) (λ c. cond (eqb c core) amount (cond (ltb c m) (get_or capacities c 0) 0)) =
    fun_ext (λ c. elim (cases_eq c core) [
      | inl e ↦ (let got : get_or (set capacities core amount) core 0 ≡ amount = get_or-set_same capacities core amount 0 (omega arith) in rw e (grind (arith, nat_tests)))
      | inr ne ↦ (let got : get_or (set capacities core amount) c 0 ≡ get_or capacities c 0 = get_or-set_other capacities core c amount 0 ne in grind (arith, nat_tests))
    ]) in
    λ j. record {
      tasks = n;
      cores = m;
      capacity = caps j;
      need = amounts (λ entry. entry.need) entries used;
      held = amounts (λ entry. entry.held) entries used;
      greatest_pairs = min (length entries) (n * m);
      greatest_capacity = λ core. cond (ltb core m) most_slots 0;
    }

-- a list of zeros
pub zeros : (n at : ℕ) → ◌≡◌ {A = ℕ} (get_or (replicate n 0) at 0) 0
zeros zero at = refl
zeros (suc n) zero = refl
zeros (suc n) (suc at) = zeros n at

-- no entry in use and no capacity
pub all-clear : (n m : ℕ) (entries : List Entry) → pairs n m 0 (replicate 16 0) entries ≡ new_board n m (min (length entries) (n * m)) most_slots
all-clear n m entries =
    let caps : ◌≡◌ {A = ℕ → ℕ} (λ c. cond (ltb c m) (get_or (replicate 16 0) c 0) 0) (λ _. 0) = fun_ext (λ c. let z = zeros 16 c in grind (arith, nat_tests)) in
    λ j. record {
      tasks = n;
      cores = m;
      capacity = caps j;
      need = λ _ _. 0;
      held = λ _ _. 0;
      greatest_pairs = min (length entries) (n * m);
      greatest_capacity = λ core. cond (ltb core m) most_slots 0;
    }

pub none-serving : (n m : ℕ) (entries : List Entry) → Serving n m entries 0
none-serving n m entries = record {
  on_tasks = λ at below. omega arith;
  on_cores = λ at below. omega arith;
  some = λ at below. omega arith;
  alone = λ a b below _ _ _. omega arith;
}

pub none-counted : (n m : ℕ) (entries : List Entry) → 0 ≡ pair_count (pairs n m 0 (replicate 16 0) entries)
none-counted n m entries = sym (sum-none n (λ t. sum_to m (λ c. needed 0)) (λ t. sum-none m (λ c. needed 0) (λ c. refl)))
