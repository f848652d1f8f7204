-- Which outcome a change comes to, what it does to the sums, and that a sound board stays sound.
use Rattle.std.proofs.Common.{◌≡◌, ℕ, ◌+◌, ◌<◌, ◌≤◌, true, false, ◌&&◌, ◌||◌, eqb, ltb, leb, ◌⊎◌, refl, ap, ◌∙◌, inl, inr, arith}
use Rattle.std.proofs.lemmas.Bool.Decides.{nat_tests}
use Rattle.std.proofs.lemmas.Bool.{cases_lt, cases_eq, ne_eqb, and_right, and_left, cond-false, cond_both, lt-ltb, le-ltb, lt-leb}
use Rattle.fairness.specs.Sums.{sum_to}
use Rattle.fairness.specs.Plans.{Plan}
use Rattle.fairness.proofs.Sums.{sum-eq, sum-point}
use Rattle.board.specs.declared.fault.Refusal.TheVariants.{CoreOverCapacity, NoPairLeft}
use Rattle.board.specs.Meaning.{Meaning, Sound, put, given_at, pair_count, needed, with_need, with_held, with_capacity, cleared}
use Rattle.board.specs.Outcomes.{Outcome, done, refused, after, set_need, set_held, set_capacity}
use Rattle.board.proofs.Bounds.{sum-none, needed-one, needed-none, needed-le}

-- one number changed: there it is the new one, at other cores and for other tasks all is as it was
pub put-here : (plan : Plan) (task core amount : ℕ) → put plan task core amount task core ≡ amount
put-here plan task core amount = grind (arith, nat_tests)

pub put-other-core : (plan : Plan) (task core amount t c : ℕ) → (c ≡ core → ⊥) → put plan task core amount t c ≡ plan t c
put-other-core plan task core amount t c ne = cond-false _ _ _ (and_right (eqb t task) _ (ne_eqb c core ne))

pub put-other-task : (plan : Plan) (task core amount t c : ℕ) → (t ≡ task → ⊥) → put plan task core amount t c ≡ plan t c
put-other-task plan task core amount t c ne = cond-false _ _ _ (and_left _ (eqb c core) (ne_eqb t task ne))

-- the slots given at the core, after a task's slots there changed
pub given-put : (m : Meaning) (task core amount : ℕ) → task < m.tasks → given_at (with_held m task core amount) core + m.held task core ≡ given_at m core + amount
given-put m task core amount below =
    let changed : ℕ → ℕ = λ t. put m.held task core amount t core in
    let here : changed task ≡ amount = put-here m.held task core amount in
    omega (arith, here, sum-point m.tasks task (λ t. m.held t core) changed below (λ t _ ne. put-other-task m.held task core amount t core ne))

-- and at another core
pub given-other : (m : Meaning) (task core amount c : ℕ) → (c ≡ core → ⊥) → given_at (with_held m task core amount) c ≡ given_at m c
given-other m task core amount c ne =
    sum-eq m.tasks (λ t. put m.held task core amount t c) (λ t. m.held t c) (λ t _. put-other-core m.held task core amount t c ne)

-- the number of pairs, after a need changed
pub pairs-put : (m : Meaning) (task core amount : ℕ) → task < m.tasks → core < m.cores
    → pair_count (with_need m task core amount) + needed (m.need task core) ≡ pair_count m + needed amount
pairs-put m task core amount tn cm =
    let changed : Plan = put m.need task core amount in
    let here : needed (changed task core) ≡ needed amount = ap needed (put-here m.need task core amount) in
    let row = sum-point m.cores core (λ c. needed (m.need task c)) (λ c. needed (changed task c)) cm (λ c _ ne. ap needed (put-other-core m.need task core amount task c ne)) in
    let all = sum-point m.tasks task (λ t. sum_to m.cores (λ c. needed (m.need t c))) (λ t. sum_to m.cores (λ c. needed (changed t c))) tn
    (λ t _ ne. sum-eq m.cores (λ c. needed (changed t c)) (λ c. needed (m.need t c)) (λ c _. ap needed (put-other-task m.need task core amount t c ne))) in
    omega (arith, here, row, all)

-- a change on the board that fits is done; `refused-..` name the test that stops it
on-board : (n m task core : ℕ) → task < n → core < m → (leb n task || leb m core) ≡ false
on-board n m task core tn cm = rw (lt-leb n task tn, lt-leb m core cm)

pub off-board : (n m task core : ℕ) → (n ≤ task) ⊎ (m ≤ core) → (leb n task || leb m core) ≡ true
off-board n m task core out = elim out [
  | inl h ↦ grind (arith, nat_tests)
  | inr h ↦ grind (arith, nat_tests)
]

module _ (m : Meaning) (task core amount : ℕ) (tn : task < m.tasks) (cm : core < m.cores) (within : amount ≤ m.need task core) where
  pub refused_full : m.capacity core + m.held task core < given_at m core + amount → set_held m task core amount ≡ refused CoreOverCapacity
  refused_full full =
      let p = given-put m task core amount tn in
      let over : m.capacity core < given_at (with_held m task core amount) core = omega arith in
      rw (on-board m.tasks m.cores task core tn cm, le-ltb (m.need task core) amount within, lt-ltb _ _ over)

  pub done_held : given_at m core + amount ≤ m.capacity core + m.held task core → set_held m task core amount ≡ done (with_held m task core amount)
  done_held fits =
      let p = given-put m task core amount tn in
      let under : given_at (with_held m task core amount) core ≤ m.capacity core = omega arith in
      rw (on-board m.tasks m.cores task core tn cm, le-ltb (m.need task core) amount within, le-ltb _ _ under)

-- fewer slots than now are always taken
pub done-fewer : (m : Meaning) (task core amount : ℕ) → Sound m → task < m.tasks → core < m.cores → amount ≤ m.held task core
    → set_held m task core amount ≡ done (with_held m task core amount)
done-fewer m task core amount s tn cm fewer =
    done_held m task core amount tn cm (omega (arith, s.covered task core)) (omega (arith, s.fits core cm))

-- the test for a new pair, over plain numbers: when it lets a need pass, and what then holds
pair_left-room : (amount need most count : ℕ) → (0 < amount → need ≤ 0 → count < most) → (ltb 0 amount && eqb need 0 && leb most count) ≡ false
pair_left-room amount need most count room = elim (cases_lt 0 amount) [
  | inl some ↦ elim (cases_lt 0 need) [
    | inl old ↦ grind (arith, nat_tests)
    | inr new ↦ (let less : count < most = room some new in grind (arith, nat_tests))
  ]
  | inr none ↦ grind (arith, nat_tests)
]

pair_fits-kept : (amount need most count changed : ℕ) → (ltb 0 amount && eqb need 0 && leb most count) ≡ false → count ≤ most
    → changed + needed need ≡ count + needed amount → changed ≤ most
pair_fits-kept amount need most count changed passed few sum = elim (cases_lt 0 amount) [
  | inl some ↦ elim (cases_lt 0 need) [
    | inl old ↦ omega (arith, needed-one need old, needed-le amount)
    | inr new ↦ (let less : count < most = grind (arith, nat_tests) in omega (arith, needed-le amount))
  ]
  | inr none ↦ omega (arith, needed-none amount none)
]

module _ (m : Meaning) (task core amount : ℕ) (tn : task < m.tasks) (cm : core < m.cores) (small : amount ≤ 1000) (covers : m.held task core ≤ amount) where
  pub refused-pairs : 0 < amount → m.need task core ≤ 0 → m.greatest_pairs ≤ pair_count m → set_need m task core amount ≡ refused NoPairLeft
  refused-pairs some none full =
      let stop : (ltb 0 amount && eqb (m.need task core) 0 && leb m.greatest_pairs (pair_count m)) ≡ true = grind (arith, nat_tests) in
      rw (on-board m.tasks m.cores task core tn cm, le-ltb 1000 amount small, le-ltb amount (m.held task core) covers, stop)

  pub done-need : (0 < amount → m.need task core ≤ 0 → pair_count m < m.greatest_pairs) → set_need m task core amount ≡ done (with_need m task core amount)
  done-need room =
      let go = pair_left-room amount (m.need task core) m.greatest_pairs (pair_count m) room in
      rw (on-board m.tasks m.cores task core tn cm, le-ltb 1000 amount small, le-ltb amount (m.held task core) covers, go)

module _ (m : Meaning) (core amount : ℕ) (cm : core < m.cores) (small : amount ≤ m.greatest_capacity core) where
  pub refused-given : amount < given_at m core → set_capacity m core amount ≡ refused CoreOverCapacity
  refused-given over = rw (lt-leb m.cores core cm, le-ltb (m.greatest_capacity core) amount small, lt-ltb _ _ over)

  pub done-capacity : given_at m core ≤ amount → set_capacity m core amount ≡ done (with_capacity m core amount)
  done-capacity fits = rw (lt-leb m.cores core cm, le-ltb (m.greatest_capacity core) amount small, le-ltb _ _ fits)

not-below : (a b : ℕ) → ltb a b ≡ false → b ≤ a
not-below a b h = grind (arith, nat_tests)

-- a test of a task and a core that lets them pass
pub on-board-left : (n m task core : ℕ) → (leb n task || leb m core) ≡ false → task < n
on-board-left n m task core h = grind (arith, nat_tests)

pub on-board-right : (n m task core : ℕ) → (leb n task || leb m core) ≡ false → core < m
on-board-right n m task core h = grind (arith, nat_tests)

pub held-sound : (m : Meaning) (task core amount : ℕ) → Sound m → amount ≤ m.need task core → given_at (with_held m task core amount) core ≤ m.capacity core
    → Sound (with_held m task core amount)
held-sound m task core amount s within fits = record {
  few_tasks = s.few_tasks;
  few_cores = s.few_cores;
  no_tasks = s.no_tasks;
  no_cores = s.no_cores;
  covered = λ t c. grind (arith, nat_tests, s.covered t c);
  fits = λ c below. elim (cases_eq c core) [
    | inl e ↦ rw e fits
    | inr ne ↦ omega (arith, s.fits c below, given-other m task core amount c ne)
  ];
  small = s.small;
  capped = s.capped;
  low = s.low;
  few_pairs = s.few_pairs;
  beyond_tasks = s.beyond_tasks;
  beyond_cores = s.beyond_cores;
  no_core = s.no_core;
}

pub need-sound : (m : Meaning) (task core amount : ℕ) → Sound m → task < m.tasks → core < m.cores → amount ≤ 1000 → m.held task core ≤ amount
    → pair_count (with_need m task core amount) ≤ m.greatest_pairs → Sound (with_need m task core amount)
need-sound m task core amount s tn cm small covers pairs = record {
  few_tasks = s.few_tasks;
  few_cores = s.few_cores;
  no_tasks = s.no_tasks;
  no_cores = s.no_cores;
  covered = λ t c. grind (arith, nat_tests, s.covered t c);
  fits = s.fits;
  small = λ t c. grind (arith, nat_tests, s.small t c);
  capped = s.capped;
  low = s.low;
  few_pairs = pairs;
  beyond_tasks = λ t c out. put-other-task m.need task core amount t c (λ e. omega arith) ∙ s.beyond_tasks t c out;
  beyond_cores = λ t c out. put-other-core m.need task core amount t c (λ e. omega arith) ∙ s.beyond_cores t c out;
  no_core = s.no_core;
}

pub capacity-sound : (m : Meaning) (core amount : ℕ) → Sound m → amount ≤ m.greatest_capacity core → given_at m core ≤ amount
    → Sound (with_capacity m core amount)
capacity-sound m core amount s small fits = record {
  few_tasks = s.few_tasks;
  few_cores = s.few_cores;
  no_tasks = s.no_tasks;
  no_cores = s.no_cores;
  covered = s.covered;
  fits = λ c below. elim (cases_eq c core) [
    | inl e ↦ rw e (grind (arith, nat_tests))
    | inr ne ↦ grind (arith, nat_tests, s.fits c below)
  ];
  small = s.small;
  capped = λ c. elim (cases_eq c core) [
    | inl e ↦ rw e (grind (arith, nat_tests))
    | inr ne ↦ grind (arith, nat_tests, s.capped c)
  ];
  low = s.low;
  few_pairs = s.few_pairs;
  beyond_tasks = s.beyond_tasks;
  beyond_cores = s.beyond_cores;
  no_core = s.no_core;
}

pub set_held-sound : (m : Meaning) (task core amount : ℕ) → Sound m → Sound (after m (set_held m task core amount))
set_held-sound m task core amount s =
    let P : Outcome → Type 0 = λ o. Sound (after m o) in
    cond_both (leb m.tasks task || leb m.cores core) _ _ P (λ _. s)
    (λ _. cond_both (ltb (m.need task core) amount) _ _ P (λ _. s)
    (λ e. cond_both (ltb (m.capacity core) (given_at (with_held m task core amount) core)) _ _ P (λ _. s)
    (λ f. held-sound m task core amount s (not-below _ _ e) (not-below _ _ f))))

pub set_need-sound : (m : Meaning) (task core amount : ℕ) → Sound m → Sound (after m (set_need m task core amount))
set_need-sound m task core amount s =
    let P : Outcome → Type 0 = λ o. Sound (after m o) in
    cond_both (leb m.tasks task || leb m.cores core) _ _ P (λ _. s)
    (λ on. cond_both (ltb 1000 amount) _ _ P (λ _. s)
    (λ e. cond_both (ltb amount (m.held task core)) _ _ P (λ _. s)
    (λ f. cond_both (ltb 0 amount && eqb (m.need task core) 0 && leb m.greatest_pairs (pair_count m)) _ _ P (λ _. s)
    (λ h.
    let tn = on-board-left m.tasks m.cores task core on in
    let cm = on-board-right m.tasks m.cores task core on in
    need-sound m task core amount s tn cm (not-below _ _ e) (not-below _ _ f) (pair_fits-kept amount (m.need task core) m.greatest_pairs (pair_count m) _ h s.few_pairs (pairs-put m task core amount tn cm))))))

pub set_capacity-sound : (m : Meaning) (core amount : ℕ) → Sound m → Sound (after m (set_capacity m core amount))
set_capacity-sound m core amount s =
    let P : Outcome → Type 0 = λ o. Sound (after m o) in
    cond_both (leb m.cores core) _ _ P (λ _. s)
    (λ _. cond_both (ltb (m.greatest_capacity core) amount) _ _ P (λ _. s)
    (λ e. cond_both (ltb amount (given_at m core)) _ _ P (λ _. s)
    (λ f. capacity-sound m core amount s (not-below _ _ e) (not-below _ _ f))))

pub cleared-sound : (m : Meaning) → Sound m → Sound (cleared m)
cleared-sound m s = record {
  few_tasks = s.few_tasks;
  few_cores = s.few_cores;
  no_tasks = s.no_tasks;
  no_cores = s.no_cores;
  covered = λ t c. omega arith;
  fits = λ c below. omega (arith, sum-none m.tasks (λ _. 0) (λ _. refl));
  small = λ t c. omega arith;
  capped = λ c. omega arith;
  low = s.low;
  few_pairs = omega (arith, sum-none m.tasks (λ t. sum_to m.cores (λ c. needed 0)) (λ t. sum-none m.cores (λ c. needed 0) (λ c. refl)));
  beyond_tasks = λ t c out. refl;
  beyond_cores = λ t c out. refl;
  no_core = s.no_core;
}
