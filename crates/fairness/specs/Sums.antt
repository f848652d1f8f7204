-- Sums over the numbers below a bound, and whether all or some of them pass a test.
use Rattle.std.specs.Prelude.{ℕ, zero, suc, ◌+◌, Bool, true, false, ◌&&◌, ◌||◌}

-- f 0 + f 1 + .. + f (n - 1)
abbrev pub sum_to : ℕ → (ℕ → ℕ) → ℕ
sum_to zero f = 0
sum_to (suc n) f = sum_to n f + f n

abbrev pub all_to : ℕ → (ℕ → Bool) → Bool
all_to zero passes = true
all_to (suc n) passes = passes n && all_to n passes

abbrev pub some_to : ℕ → (ℕ → Bool) → Bool
some_to zero passes = false
some_to (suc n) passes = passes n || some_to n passes
