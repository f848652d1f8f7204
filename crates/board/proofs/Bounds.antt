-- How large the sums over a sound board can be.
use Rattle.std.proofs.Common.{◌≡◌, ℕ, zero, suc, ◌*◌, ◌<◌, ◌≤◌, refl, inl, inr, arith}
use Rattle.std.proofs.lemmas.Bool.Decides.{nat_tests}
use Rattle.std.proofs.lemmas.Bool.{cases_lt}
use Rattle.fairness.specs.Sums.{sum_to}
use Rattle.board.specs.Meaning.{Meaning, Sound, given_at, free_at, needed}

-- a sum of numbers that are at most b
pub sum_bound : (n : ℕ) (f : ℕ → ℕ) (b : ℕ) → ((i : ℕ) → f i ≤ b) → sum_to n f ≤ n * b
sum_bound zero f b h = omega arith
sum_bound (suc n) f b h = omega (arith, sum_bound n f b h, h n)

-- a sum of zeros
pub sum-none : (n : ℕ) (f : ℕ → ℕ) → ((i : ℕ) → f i ≡ 0) → sum_to n f ≡ 0
sum-none zero f h = refl
sum-none (suc n) f h = omega (arith, sum-none n f h, h n)

pub needed-one : (need : ℕ) → 0 < need → needed need ≡ 1
needed-one need h = grind (arith, nat_tests)

pub needed-none : (need : ℕ) → need ≤ 0 → needed need ≡ 0
needed-none need h = grind (arith, nat_tests)

pub needed-le : (need : ℕ) → needed need ≤ 1
needed-le need = grind (arith, nat_tests)

-- no task holds more than the greatest need
pub held_small : (m : Meaning) → Sound m → (task core : ℕ) → m.held task core ≤ 1000
held_small m s task core = omega (arith, s.covered task core, s.small task core)

-- no core at all gives more than its capacity, be it on the board or not
pub given-within : (m : Meaning) → Sound m → (core : ℕ) → given_at m core ≤ m.capacity core
given-within m s core = elim (cases_lt core m.cores) [
  | inl on ↦ s.fits core on
  | inr off ↦
      let none : given_at m core ≡ 0 = sum-none m.tasks (λ task. m.held task core) (λ task. omega (arith, s.covered task core, s.beyond_cores task core off)) in
      omega (arith, none)
]

pub free-small : (m : Meaning) → Sound m → (core : ℕ) → free_at m core ≤ 1000
free-small m s core = omega (arith, s.capped core, s.low core)
