-- A new board is sound.
use Rattle.std.proofs.Common.{◌≡◌, ℕ, ◌≤◌, Bool, true, false, is_err, Result, sym, refl, ap, ◌∙◌, arith}
use Rattle.std.proofs.lemmas.Bool.Decides.{nat_tests}
use Rattle.std.proofs.lemmas.Bool.{true≢false}
use Rattle.fairness.specs.Sums.{sum_to}
use Rattle.board.specs.declared.fault.Fault.{Fault}
use Rattle.board.specs.Outcomes.{checked}
use Rattle.board.specs.Meaning.{Sound, new_board, sizes_allowed, needed}
use Rattle.board.proofs.Bounds.{sum-none}

-- the bounds that allowed sizes keep
pub record Sizes (n m : ℕ) : Type 0 where
  pub some-tasks : 1 ≤ n
  pub few_tasks : n ≤ 64
  pub some-cores : 1 ≤ m
  pub few_cores : m ≤ 16

pub allowed : (n m : ℕ) → sizes_allowed n m ≡ true → Sizes n m
allowed n m h = record {
  some-tasks = grind (arith, nat_tests);
  few_tasks = grind (arith, nat_tests);
  some-cores = grind (arith, nat_tests);
  few_cores = grind (arith, nat_tests);
}

clear-sound : (n m pairs greatest : ℕ) → n ≤ 64 → m ≤ 16 → (n ≡ 0 → m ≡ 0) → (m ≡ 0 → n ≡ 0) → greatest ≤ 1000 → Sound (new_board n m pairs greatest)
clear-sound n m pairs greatest few-n few-m nm mn low = record {
  few_tasks = few-n;
  few_cores = few-m;
  no_tasks = nm;
  no_cores = mn;
  covered = λ t c. omega arith;
  fits = λ c below. omega (arith, sum-none n (λ _. 0) (λ _. refl));
  small = λ t c. omega arith;
  capped = λ c. omega arith;
  low = λ c. grind (arith, nat_tests);
  few_pairs = omega (arith, sum-none n (λ t. sum_to m (λ c. needed 0)) (λ t. sum-none m (λ c. needed 0) (λ c. refl)));
  beyond_tasks = λ t c out. refl;
  beyond_cores = λ t c out. refl;
  no_core = λ c out. grind (arith, nat_tests);
}

pub new-sound : (n m pairs greatest : ℕ) → Sizes n m → greatest ≤ 1000 → Sound (new_board n m pairs greatest)
new-sound n m pairs greatest sizes low =
    clear-sound n m pairs greatest sizes.few_tasks sizes.few_cores (λ e. omega (arith, sizes.some-tasks)) (λ e. omega (arith, sizes.some-cores)) low

pub empty-sound : (pairs greatest : ℕ) → greatest ≤ 1000 → Sound (new_board 0 0 pairs greatest)
empty-sound pairs greatest low = clear-sound 0 0 pairs greatest (omega arith) (omega arith) (λ e. refl) (λ e. refl) low

-- a check that tells no fault passed
pub passes : (fit : Bool) (told : Result (Unit {0}) Fault) → told ≡ checked fit → false ≡ is_err told → fit ≡ true
passes true told is none = refl
passes false told is none = absurd (true≢false (sym (none ∙ ap is_err is)))

-- and one that tells a fault did not
pub refuses : (fit : Bool) (told : Result (Unit {0}) Fault) → told ≡ checked fit → true ≡ is_err told → fit ≡ false
refuses true told is some = absurd (true≢false (some ∙ ap is_err is))
refuses false told is some = refl
