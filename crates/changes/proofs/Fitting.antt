-- Slots that no longer fit are taken away, task by task.
use Rattle.std.proofs.Common.{◌≡◌, ℕ, ◌+◌, ◌-◌, ◌<◌, ◌≤◌, sym, ap, ◌∙◌, subst, inl, inr, arith}
use Rattle.std.proofs.lemmas.Bool.{cases_lt, cases_eq}
use Rattle.fairness.proofs.Sums.{sum-eq, sum-zero}
use Rattle.board.specs.Meaning.{Meaning, Sound, SameOrder, with_held, given_at}
use Rattle.board.specs.Outcomes.{after, set_held}
use Rattle.board.proofs.Changes.{done-fewer, given-put, put-here, put-other-task}

-- so many slots of the core are still over its capacity, and the tasks below have then none left
pub record Fitting (m : Meaning) (core capacity over task : ℕ) : Type 0 where
  pub within : given_at m core ≤ capacity + over
  pub exact : 0 < over → given_at m core ≡ capacity + over
  pub emptied : (t : ℕ) → t < task → 0 < over → m.held t core ≡ 0

pub fitting-more : (m b : Meaning) (core capacity over task held left : ℕ) → Sound m → task < m.tasks → core < m.cores → held ≡ m.held task core → left ≡ held - over
    → b ≡ after m (set_held m task core left) → Fitting m core capacity over task → Fitting b core capacity (over - (held - left)) (task + 1)
fitting-more m b core capacity over task held left so tn cm he le be f =
    let e : b ≡ with_held m task core left = be ∙ ap (after m) (done-fewer m task core left so tn cm (omega (arith, he, le))) in
    let P : Meaning → Type 0 = λ z. Fitting z core capacity (over - (held - left)) (task + 1) in
    let more = given-put m task core left tn in
    subst P (sym e) (record {
      within = omega (arith, more, f.within, he, le);
      exact = λ some. omega (arith, more, f.exact (omega arith), he, le);
      emptied = λ t l some. elim (cases_eq t task) [
        | inl here ↦ rw here (put-here m.held task core left ∙ omega (arith, le))
        | inr other ↦ put-other-task m.held task core left t core other ∙ f.emptied t (omega arith) (omega arith)
      ];
    })

pub fitting-end : (m : Meaning) (core capacity over task : ℕ) → m.tasks ≤ task → Fitting m core capacity over task → given_at m core ≤ capacity
fitting-end m core capacity over task all f = elim (cases_lt 0 over) [
  | inl some ↦ omega (arith, f.exact some, sum-zero m.tasks, sum-eq m.tasks (λ t. m.held t core) (λ _. 0) (λ t l. f.emptied t (omega arith) some))
  | inr none ↦ omega (arith, f.within)
]

-- slots that fall leave the order as it is
pub order-held : (old m b : Meaning) (task core amount : ℕ) → Sound m → task < m.tasks → core < m.cores → amount ≤ m.held task core → b ≡ after m (set_held m task core amount) → SameOrder old m → SameOrder old b
order-held old m b task core amount so tn cm fewer be order =
    let e : b ≡ with_held m task core amount = be ∙ ap (after m) (done-fewer m task core amount so tn cm fewer) in
    let P : Meaning → Type 0 = λ z. SameOrder old z in
    subst P (sym e) (ap (λ (z : Meaning). with_held z task core amount) order)
