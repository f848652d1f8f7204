-- What an exchange along a route does to the plan.
use Rattle.std.proofs.Common.{◌≡◌, ℕ, zero, suc, ◌+◌, ◌-◌, ◌<◌, false, ◌&&◌, eqb, ◌⊎◌, sym, refl, ◌∙◌, inl, inr, arith}
use Rattle.std.proofs.lemmas.Bool.{and_parts, eqb-true, ne_eqb, cases_lt}
use Rattle.fairness.specs.Sums.{sum_to}
use Rattle.fairness.specs.Plans.{Plan, given, total, Feasible}
use Rattle.fairness.specs.Moves.{same, slot_at}
use Rattle.fairness.specs.Routes.{Route, Exchanged}
use Rattle.fairness.proofs.Sums.{sum-eq, sum-add, sum-swap, sum-zero, sum-point, some-cases}
use Rattle.fairness.proofs.Moves.{slot_row, slot-column}

-- the slots that the tasks `next` have of an exchange
abbrev pub passed : ℕ → (ℕ → ℕ) → (ℕ → ℕ) → ℕ → ℕ → ℕ
passed steps next through t c = sum_to steps (λ s. slot_at (next s) (through s) t c)

-- a sum with one summand
sum-only : (k s : ℕ) (f : ℕ → ℕ) → s < k → ((r : ℕ) → r < k → (r ≡ s → ⊥) → f r ≡ 0) → sum_to k f ≡ f s
sum-only k s f l none = omega (arith, sum-point k s (λ r. 0) f l (λ r u ne. none r u ne), sum-zero k)

-- where no task comes twice, a task has one slot of one core at most
pub passed-once : (steps : ℕ) (next through : ℕ → ℕ) → ((r s : ℕ) → r < s → s < steps → next r ≡ next s → ⊥) → (t c : ℕ)
    → ((s : ℕ) × (s < steps) × (next s ≡ t) × (through s ≡ c) × (passed steps next through t c ≡ 1)) ⊎ (passed steps next through t c ≡ 0)
passed-once steps next through once t c = elim (some-cases steps (λ s. eqb t (next s) && eqb c (through s))) [
  | inl h ↦
      let s : ℕ = h.0 in
      let p = and_parts (eqb t (next s)) (eqb c (through s)) h.2 in
      let e : t ≡ next s = eqb-true t (next s) p.0 in
      inl (
        s,
        h.1,
        sym e,
        sym (eqb-true c (through s) p.1),
        sum-only steps s (λ r. slot_at (next r) (through r) t c) h.1 (λ r l ne.
            let other : eqb t (next r) ≡ false = ne_eqb t (next r) (λ x. elim (cases_lt r s) [
              | inl u ↦ once r s u h.1 (sym x ∙ e)
              | inr u ↦ once s r (omega arith) l (sym e ∙ x)
            ]) in grind (arith, other))
            ∙ grind (arith, p.0, p.1),
      )
  | inr h ↦ inr (sum-eq steps (λ s. slot_at (next s) (through s) t c) (λ s. 0) (λ s l. grind (arith, h s l)) ∙ sum-zero steps)
]

-- over the cores, and over the tasks
passed-row : (m steps : ℕ) (next through : ℕ → ℕ) → ((s : ℕ) → s < steps → through s < m) → (t : ℕ)
    → sum_to m (passed steps next through t) ≡ sum_to steps (λ s. same t (next s))
passed-row m steps next through cores t =
    sum-swap m steps (λ c s. slot_at (next s) (through s) t c)
    ∙ sum-eq steps (λ s. sum_to m (slot_at (next s) (through s) t)) (λ s. same t (next s)) (λ s l. slot_row m (next s) (through s) t (cores s l))

passed-column : (n steps : ℕ) (next through : ℕ → ℕ) → ((s : ℕ) → s < steps → next s < n) → (c : ℕ)
    → sum_to n (λ t. passed steps next through t c) ≡ sum_to steps (λ s. same c (through s))
passed-column n steps next through tasks c =
    sum-swap n steps (λ t s. slot_at (next s) (through s) t c)
    ∙ sum-eq steps (λ s. sum_to n (λ t. slot_at (next s) (through s) t c)) (λ s. same c (through s)) (λ s l. slot-column n (next s) (through s) c (tasks s l))

-- all but the first and the last task have as many as they pass on
pub ends-differ : (at : ℕ → ℕ) (t k : ℕ) → sum_to k (λ s. same t (at (suc s))) + same t (at 0) ≡ sum_to k (λ s. same t (at s)) + same t (at k)
ends-differ at t zero = refl
ends-differ at t (suc k) = omega (arith, ends-differ at t k)

module _ (n m : ℕ) (need held : Plan) (steps : ℕ) (at through : ℕ → ℕ) (route : Route n m need held steps at through) where
  gained : (t c : ℕ) → ((s : ℕ) × (s < steps) × (at s ≡ t) × (through s ≡ c) × (passed steps at through t c ≡ 1)) ⊎ (passed steps at through t c ≡ 0)
  gained = passed-once steps at through (λ r s l u. route.no_task_twice r s l (omega arith))

  lost : (t c : ℕ) → ((s : ℕ) × (s < steps) × (at (suc s) ≡ t) × (through s ≡ c) × (passed steps (λ s. at (suc s)) through t c ≡ 1)) ⊎ (passed steps (λ s. at (suc s)) through t c ≡ 0)
  lost = passed-once steps (λ s. at (suc s)) through (λ r s l u. route.no_task_twice (suc r) (suc s) (omega arith) (omega arith))

  -- the plan after the exchange
  abbrev pub exchange : Plan
  exchange t c = (held t c + passed steps at through t c) - passed steps (λ s. at (suc s)) through t c

  pub exchange-exchanged : Exchanged n m steps at through held exchange
  exchange-exchanged t c u v = elim (lost t c) [
    | inl h ↦ omega (arith, h.4, rw (h.2, h.3) at (route.holds h.0 h.1))
    | inr h ↦ omega (arith, h)
  ]

  module _ (after : Plan) (made : Exchanged n m steps at through held after) where
    pub exchange-total : (t : ℕ) → t < n → total m after t + same t (at steps) ≡ total m held t + same t (at 0)
    exchange-total t u =
        omega (
          arith,
          sum-eq m (λ c. after t c + passed steps (λ s. at (suc s)) through t c) (λ c. held t c + passed steps at through t c) (λ c v. made t c u v),
          sum-add m (after t) (passed steps (λ s. at (suc s)) through t),
          sum-add m (held t) (passed steps at through t),
          passed-row m steps (λ s. at (suc s)) through route.cores t,
          passed-row m steps at through route.cores t,
          ends-differ at t steps,
        )

    exchange-given : (c : ℕ) → c < m → given n after c ≡ given n held c
    exchange-given c v =
        omega (
          arith,
          sum-eq n (λ t. after t c + passed steps (λ s. at (suc s)) through t c) (λ t. held t c + passed steps at through t c) (λ t u. made t c u v),
          sum-add n (λ t. after t c) (λ t. passed steps (λ s. at (suc s)) through t c),
          sum-add n (λ t. held t c) (λ t. passed steps at through t c),
          passed-column n steps (λ s. at (suc s)) through (λ s l. route.tasks (suc s) l) c,
          passed-column n steps at through (λ s l. route.tasks s (omega arith)) c,
        )

    pub exchange-feasible : (capacity : ℕ → ℕ) → Feasible n m need capacity held → Feasible n m need capacity after
    exchange-feasible capacity feasible = record {
      within = λ t c u v. elim (gained t c) [
        | inl h ↦ omega (arith, made t c u v, h.4, rw (h.2, h.3) at (route.needs h.0 h.1))
        | inr h ↦ omega (arith, made t c u v, h, feasible.within t c u v)
      ];
      room = λ c v. omega (arith, exchange-given c v, feasible.room c v);
    }
