-- The computation tells the fairest plans from the others.
use Rattle.std.proofs.Common.{◌≡◌, ℕ, zero, suc, ◌+◌, ◌-◌, ◌<◌, ◌≤◌, Bool, true, cond, not, ◌&&◌, ◌||◌, eqb, ltb, leb, sym, ap, ◌∙◌, inl, inr, arith}
use Rattle.std.specs.Ordering.{is_le}
use Rattle.std.proofs.lemmas.Bool.{and_parts, and_from, or_cases, or_left, or_right, cases_Bool, cases_lt, cases_eq, cases_order, cond-true, cond-false, ne_eqb, ltb-true, eqb-false, both_ways, leb-true, le-leb, eqb-true, eq-eqb, not-true, not_from_false}
use Rattle.fairness.specs.Sums.{all_to}
use Rattle.fairness.specs.Plans.{Plan, given, total, Feasible}
use Rattle.fairness.specs.Laws.{Comparison, Lawful}
use Rattle.fairness.specs.Levels.{share_with, share_of, Fairest, Countable}
use Rattle.fairness.specs.Routes.{Route, should_gain}
use Rattle.fairness.specs.Settled.{Safe}
use Rattle.fairness.specs.Decision.{is_feasible, layer, takes_none, loses_none, is_safe, FairestDecided, count_at, same_counts, with_total, all_near, is_only, is_route}
use Rattle.fairness.proofs.Sums.{sum-eq, all_from, all-has}
use Rattle.fairness.proofs.Rules.{on-board-laws, on-board-rising}
use Rattle.fairness.proofs.Levels.{cmp, fairest-on}
use Rattle.fairness.proofs.Reach.{stable, layer-own, layer-next}
use Rattle.fairness.proofs.Fairest.{reached-no-gain, reached-no-free}
use Rattle.fairness.proofs.Theorems.{settled-is-fairest, fairest-same-levels, totals-within-one}

pub feasible-from : (n m : ℕ) (need : Plan) (capacity : ℕ → ℕ) (held : Plan) → is_feasible n m need capacity held ≡ true → Feasible n m need capacity held
feasible-from n m need capacity held h =
    let x = and_parts (all_to n (λ task. all_to m (λ core. leb (held task core) (need task core)))) (all_to m (λ core. leb (given n held core) (capacity core))) h in
    record {
      within = λ task core l u. leb-true _ _ (all-has m (λ core. leb (held task core) (need task core)) (all-has n (λ task. all_to m (λ core. leb (held task core) (need task core))) x.0 task l) core u);
      room = λ core u. leb-true _ _ (all-has m (λ core. leb (given n held core) (capacity core)) x.1 core u);
    }

feasible-to : (n m : ℕ) (need : Plan) (capacity : ℕ → ℕ) (held : Plan) → Feasible n m need capacity held → is_feasible n m need capacity held ≡ true
feasible-to n m need capacity held f =
    and_from _ _
    (all_from n _ (λ task l. all_from m _ (λ core u. le-leb _ _ (f.within task core l u))))
    (all_from m _ (λ core u. le-leb _ _ (f.room core u)))

module _ (compare : Comparison) (n m : ℕ) (need : Plan) (capacity : ℕ → ℕ) (held : Plan) (task : ℕ) where
  -- what is asked of each task that is reached
  abbrev kept : ℕ → Bool
  kept other = all_to m (takes_none n need capacity held other) && loses_none compare m need held task other

  safe-from : is_safe compare n m need capacity held task ≡ true → Safe compare n m need capacity held task
  safe-from h = record {
    set = layer n m need held task n;
    closed = record {
      full = λ other core l u x less.
          elim (or_cases (leb (need other core) (held other core)) (leb (capacity core) (given n held core))
          (all-has m (takes_none n need capacity held other) (parts other l x).0 core u)) [
            | inl e ↦ absurd (omega (arith, leb-true _ _ e))
            | inr e ↦ leb-true _ _ e
          ];
      inside = λ other core holder l u v x less pos. stable n m need held task holder v (layer-next n m need held task n other core holder l u x less pos);
    };
    own = layer-own n m need held task n;
    none_gives = λ loser l x pos. elim (or_cases (eqb (total m held loser) 0) (not (should_gain compare (share_of m need held task) (share_of m need held loser))) (parts loser l x).1) [
      | inl e ↦ absurd (omega (arith, eqb-true _ _ e))
      | inr e ↦ not-true _ e
    ];
  }
    where
      reached : (other : ℕ) → other < n → layer n m need held task n other ≡ true → kept other ≡ true
      reached other l x = elim (or_cases (not (layer n m need held task n other)) (kept other) (all-has n (λ other. not (layer n m need held task n other) || kept other) h other l)) [
        | inl e ↦ absurd (both_ways _ (not-true _ e) x)
        | inr e ↦ e
      ]

      parts : (other : ℕ) → other < n → layer n m need held task n other ≡ true
          → (all_to m (takes_none n need capacity held other) ≡ true) × (loses_none compare m need held task other ≡ true)
      parts other l x = and_parts _ _ (reached other l x)

  safe-to : Lawful compare → Countable n m need → Fairest compare n m need capacity held → task < n → total m held task < total m need task
      → is_safe compare n m need capacity held task ≡ true
  safe-to lawful few fairest l low =
      let board = cmp compare n m need in
      let laws = on-board-laws compare (total m need) lawful in
      let rising = on-board-rising compare (total m need) lawful n (total m need) few in
      let on-board = fairest-on compare n m need capacity held fairest in
      all_from n (λ other. not (layer n m need held task n other) || kept other) (λ other u.
      elim (cases_Bool (layer n m need held task n other)) [
        | inl x ↦ or_right (not (layer n m need held task n other)) (kept other) (and_from _ _
            (all_from m _ (λ core v. elim (cases_lt (held other core) (need other core)) [
              | inl less ↦ or_right (leb (need other core) (held other core)) _ (elim (cases_lt (given n held core) (capacity core)) [
                | inl free ↦ absurd (reached-no-free board laws n m need capacity (total m need) rising held on-board task other core n l u v low x less free)
                | inr full ↦ le-leb _ _ full
              ])
              | inr has ↦ or_left _ _ (le-leb _ _ has)
            ]))
            (elim (cases_eq (total m held other) 0) [
              | inl e ↦ or_left _ _ (eq-eqb _ _ e)
              | inr some ↦ or_right (eqb (total m held other) 0) _ (elim (cases_Bool (should_gain compare (share_of m need held task) (share_of m need held other))) [
                | inl gain ↦ absurd (reached-no-gain board laws n m need capacity (total m need) rising held on-board task other n l u low x (omega arith) gain)
                | inr none ↦ not_from_false _ none
              ])
            ]))
        | inr x ↦ or_left _ _ (not_from_false _ x)
      ])

abbrev settled : Comparison → ℕ → ℕ → Plan → (ℕ → ℕ) → Plan → ℕ → Bool
settled compare n m need capacity held task = leb (total m need task) (total m held task) || is_safe compare n m need capacity held task

pub fairest-decided : FairestDecided
fairest-decided compare lawful n m need capacity few held = (
  λ yes.
      let x = and_parts (is_feasible n m need capacity held) (all_to n (settled compare n m need capacity held)) yes in
      settled-is-fairest compare lawful n m need capacity few held (feasible-from n m need capacity held x.0)
      (λ task l low. safe-from compare n m need capacity held task
      (elim (or_cases (leb (total m need task) (total m held task)) (is_safe compare n m need capacity held task) (all-has n (settled compare n m need capacity held) x.1 task l)) [
        | inl e ↦ absurd (omega (arith, leb-true _ _ e))
        | inr e ↦ e
      ])),
  λ no fairest. both_ways _ no
      (and_from _ _ (feasible-to n m need capacity held fairest.feasible)
      (all_from n (settled compare n m need capacity held) (λ task l. elim (cases_lt (total m held task) (total m need task)) [
        | inl low ↦ or_right (leb (total m need task) (total m held task)) _ (safe-to compare n m need capacity held task lawful few fairest l low)
        | inr has ↦ or_left _ _ (le-leb _ _ has)
      ]))),
)

with-total : (n k : ℕ) (others wanted : ℕ → ℕ) → ((i : ℕ) → i < n → suc k ≤ i → others i ≡ wanted i) → (amount : ℕ) → amount ≡ wanted k
    → (i : ℕ) → i < n → k ≤ i → with_total others k amount i ≡ wanted i
with-total n k others wanted same amount e i l u = elim (cases_eq i k) [
  | inl x ↦ cond-true {A = ℕ} (eqb i k) amount (others i) (eq-eqb i k x) ∙ e ∙ ap wanted (sym x)
  | inr x ↦ cond-false {A = ℕ} (eqb i k) amount (others i) (ne_eqb i k x) ∙ same i l (omega arith)
]

-- totals within one of the given ones are among those that were tested
all-near-has : (n : ℕ) (totals : ℕ → ℕ) (passes : (ℕ → ℕ) → Bool) (wanted : ℕ → ℕ) (k : ℕ) (others : ℕ → ℕ) → all_near k totals others passes ≡ true
    → ((i : ℕ) → i < k → (wanted i ≤ totals i + 1) × (totals i ≤ wanted i + 1)) → ((i : ℕ) → i < n → k ≤ i → others i ≡ wanted i)
    → (found : ℕ → ℕ) × (passes found ≡ true) × ((i : ℕ) → i < n → found i ≡ wanted i)
all-near-has n totals passes wanted zero others h near same = (others, h, λ i l. same i l (omega arith))
all-near-has n totals passes wanted (suc k) others h near same =
    let x = and_parts (all_near k totals (with_total others k (totals k - 1)) passes) _ h in
    let y = and_parts (all_near k totals (with_total others k (totals k)) passes) _ x.1 in
    let closer : (i : ℕ) → i < k → (wanted i ≤ totals i + 1) × (totals i ≤ wanted i + 1) = λ i l. near i (omega arith) in
    elim (cases_order (wanted k) (totals k)) [
      | inl e ↦ all-near-has n totals passes wanted k (with_total others k (totals k)) y.0 closer (with-total n k others wanted same (totals k) (sym e))
      | inr o ↦ elim o [
        | inl l ↦ all-near-has n totals passes wanted k (with_total others k (totals k - 1)) x.0 closer (with-total n k others wanted same (totals k - 1) (omega (arith, (near k (omega arith)).1)))
        | inr l ↦ all-near-has n totals passes wanted k (with_total others k (suc (totals k))) y.1 closer (with-total n k others wanted same (suc (totals k)) (omega (arith, (near k (omega arith)).0)))
      ]
    ]

-- where the test passes, every fairest plan has the totals of this one
pub only_these : (compare : Comparison) → Lawful compare → (n m : ℕ) (need : Plan) (capacity : ℕ → ℕ) → Countable n m need → (held : Plan)
    → Fairest compare n m need capacity held → is_only compare n m need held ≡ true
    → (other : Plan) → Fairest compare n m need capacity other → (task : ℕ) → task < n → total m other task ≡ total m held task
only_these compare lawful n m need capacity few held fairest only other also task l =
    let whole : ℕ → ℕ = total m need in
    let t : ℕ → ℕ = total m held in
    let f = all-near-has n t (λ others. all_to n (λ task. eqb (others task) (t task)) || not (same_counts compare n whole t others)) (total m other) n t only
    (λ i u. (
      totals-within-one compare lawful n m need capacity capacity few (λ core v. omega arith) other held also fairest i u,
      totals-within-one compare lawful n m need capacity capacity few (λ core v. omega arith) held other fairest also i u,
    ))
    (λ i u v. absurd (omega arith)) in
    let u : ℕ → ℕ = f.0 in
    elim (or_cases (all_to n (λ task. eqb (u task) (t task))) (not (same_counts compare n whole t u)) f.1) [
      | inl e ↦ sym (f.2 task l) ∙ eqb-true _ _ (all-has n (λ task. eqb (u task) (t task)) e task l)
      | inr e ↦ absurd (both_ways _ (not-true _ e) (all_from n _ (λ i v. and_from _ _ (eq-eqb _ _ (alike u f.2 i (t i))) (eq-eqb _ _ (alike u f.2 i (u i))))))
    ]
  where
    alike : (u : ℕ → ℕ) → ((k : ℕ) → k < n → u k ≡ total m other k) → (i slots : ℕ)
        → count_at compare n (total m need) (total m held) (share_with (total m need) i slots) ≡ count_at compare n (total m need) u (share_with (total m need) i slots)
    alike u same i slots =
        fairest-same-levels compare lawful n m need capacity held other fairest also i slots
        ∙ sum-eq n _ _ (λ k w. ap (λ x. cond (is_le (compare (share_with (total m need) k x) (share_with (total m need) i slots))) 1 0) (sym (same k w)))

-- steps that pass the test make a route
pub route-from : (n m : ℕ) (need held : Plan) (steps : ℕ) (at through : ℕ → ℕ) → is_route n m need held steps at through ≡ true → Route n m need held steps at through
route-from n m need held steps at through h =
    let some = and_parts (ltb 0 steps) _ h in
    let tasks = and_parts (all_to (suc steps) (λ s. ltb (at s) n)) _ some.1 in
    let cores = and_parts (all_to steps (λ s. ltb (through s) m)) _ tasks.1 in
    let needs = and_parts (all_to steps (λ s. ltb (held (at s) (through s)) (need (at s) (through s)))) _ cores.1 in
    let holds = and_parts (all_to steps (λ s. ltb 0 (held (at (suc s)) (through s)))) _ needs.1 in
    let once = and_parts (all_to (suc steps) (λ s. all_to s (λ r. not (eqb (at r) (at s))))) _ holds.1 in
    record {
      some = ltb-true _ _ some.0;
      tasks = λ s l. ltb-true _ _ (all-has (suc steps) (λ s. ltb (at s) n) tasks.0 s (omega arith));
      cores = λ s l. ltb-true _ _ (all-has steps (λ s. ltb (through s) m) cores.0 s l);
      needs = λ s l. ltb-true _ _ (all-has steps (λ s. ltb (held (at s) (through s)) (need (at s) (through s))) needs.0 s l);
      holds = λ s l. ltb-true _ _ (all-has steps (λ s. ltb 0 (held (at (suc s)) (through s))) holds.0 s l);
      no_task_twice = λ r s l u. eqb-false _ _ (not-true _
          (all-has s (λ r. not (eqb (at r) (at s))) (all-has (suc steps) (λ s. all_to s (λ r. not (eqb (at r) (at s)))) once.0 s (omega arith)) r l));
      no_core_twice = λ r s l u. eqb-false _ _ (not-true _
          (all-has s (λ r. not (eqb (through r) (through s))) (all-has steps (λ s. all_to s (λ r. not (eqb (through r) (through s)))) once.1 s u) r l));
    }
