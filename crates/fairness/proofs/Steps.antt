-- Steps of tasks: g i k is what the step of task i from the total k to k + 1 is worth.
use Rattle.std.proofs.Common.{◌≡◌, ℕ, suc, ◌-◌, ◌<◌, ◌≤◌, Bool, true}
use Rattle.fairness.specs.Sums.{sum_to}
use Rattle.fairness.specs.Plans.{total}
use Rattle.fairness.specs.Settled.{Closed}

-- no task passes its cap
abbrev pub Capped : ℕ → ℕ → (ℕ → ℕ) → (ℕ → ℕ → ℕ) → Type 0
Capped n m cap a = (i : ℕ) → i < n → total m a i ≤ cap i

-- below the caps no later step is worth more
abbrev pub Falling : ℕ → (ℕ → ℕ) → (ℕ → ℕ → ℕ) → Type 0
Falling n cap g = (i k : ℕ) → i < n → suc k < cap i → g i (suc k) ≤ g i k

-- below the caps each later step is worth less
abbrev pub Strict : ℕ → (ℕ → ℕ) → (ℕ → ℕ → ℕ) → Type 0
Strict n cap g = (i k : ℕ) → i < n → suc k < cap i → g i (suc k) < g i k

-- each task p below its cap stands in a closed set r p, in which no last step is worth less than p's next
pub record Held (n m : ℕ) (d : ℕ → ℕ → ℕ) (c cap : ℕ → ℕ) (g : ℕ → ℕ → ℕ) (a : ℕ → ℕ → ℕ) (r : ℕ → ℕ → Bool) : Type 0 where
  pub closed : (p : ℕ) → p < n → total m a p < cap p → Closed n m d c a (r p)
  pub own : (p : ℕ) → p < n → total m a p < cap p → r p p ≡ true
  pub urgent : (p q : ℕ) → p < n → q < n → total m a p < cap p → r p q ≡ true → 0 < total m a q → g p (total m a p) ≤ g q (total m a q - 1)

-- what all steps up to the totals t are worth
abbrev pub worth : ℕ → (ℕ → ℕ → ℕ) → (ℕ → ℕ) → ℕ
worth n g t = sum_to n (λ i. sum_to (t i) (g i))
