-- A table has a place for every pair.
use Rattle.std.proofs.Common.{◌≡◌, ℕ, zero, suc, ◌*◌, ◌<◌, ◌≤◌, true, inl, inr, arith}
use Rattle.std.proofs.lemmas.Bool.{cases_lt}
use Rattle.std.proofs.lemmas.Bool.Decides.{nat_tests}
use Rattle.fairness.specs.Sums.{sum_to}
use Rattle.fairness.proofs.Sums.{sum_lt}
use Rattle.board.specs.Meaning.{Meaning, pair_count, needed, has_place}
use Rattle.board.proofs.Bounds.{needed-le, needed-none, sum_bound}

sum_same : (n s : ℕ) → sum_to n (λ _. s) ≡ n * s
sum_same zero s = omega arith
sum_same (suc n) s = omega (arith, sum_same n s)

-- a board with a pair that nobody needs has fewer pairs than there could be
pub pairs_below : (m : Meaning) (task core : ℕ) → task < m.tasks → core < m.cores → m.need task core ≤ 0 → pair_count m < m.tasks * m.cores
pairs_below m task core tn cm free =
    let row : ℕ → ℕ = λ t. sum_to m.cores (λ c. needed (m.need t c)) in
    let most : (t : ℕ) → row t ≤ m.cores = λ t. omega (arith, sum_bound m.cores (λ c. needed (m.need t c)) 1 (λ c. needed-le (m.need t c))) in
    let here : row task < m.cores = omega (
      arith,
      sum_same m.cores 1,
      sum_lt m.cores core (λ c. needed (m.need task c)) (λ _. 1) cm (omega (arith, needed-none (m.need task core) free)) (λ c _. needed-le (m.need task c)),
    ) in
    omega (arith, sum_same m.tasks m.cores, sum_lt m.tasks task row (λ _. m.cores) tn here (λ t _. most t))

-- so each pair of a table has its place
pub placed : (m : Meaning) (task core : ℕ) → task < m.tasks → core < m.cores → m.greatest_pairs ≡ m.tasks * m.cores → has_place m task core ≡ true
placed m task core tn cm all = elim (cases_lt 0 (m.need task core)) [
  | inl some ↦ grind (arith, nat_tests)
  | inr none ↦ (let below = pairs_below m task core tn cm none in grind (arith, nat_tests))
]
