-- Shares of the tasks of a board, and the test made on them.
use Rattle.std.proofs.Common.{◌≡◌, ℕ, ◌<◌, ◌≤◌, true, false, ltb, refl, arith}
use Rattle.std.proofs.lemmas.Bool.{both_ways, and_parts, ltb-true}
use Rattle.fairness.specs.Laws.{Comparison, Lawful}
use Rattle.fairness.specs.Routes.{should_gain, fallen}
use Rattle.board.specs.Meaning.{Meaning, Sound, total_of}
use Rattle.board.proofs.Bounds.{sum_bound, held_small}
use Rattle.search.specs.Gains.{share_on, gains_from}

-- so a rule tells each of a task's totals from the next
pub share-small : (m : Meaning) → Sound m → (task : ℕ) → total_of m task ≤ 16000
share-small m so task = omega (arith, sum_bound m.cores (m.held task) 1000 (held_small m so task), so.few_cores)

-- no task should gain from itself
pub not_own : (compare : Comparison) → Lawful compare → (m : Meaning) → Sound m → (task : ℕ) → gains_from compare (share_on m task) (share_on m task) ≡ true → ⊥
not_own compare lawful m so task h =
    let a = and_parts (ltb 0 (total_of m task)) (should_gain compare (share_on m task) (share_on m task)) h in
    let pos : 0 < total_of m task = ltb-true _ _ a.0 in
    let up = lawful.rising (fallen (share_on m task)) (share_on m task) refl refl (omega arith) (share-small m so task) in
    let no : should_gain compare (share_on m task) (share_on m task) ≡ false = rw up refl in
    both_ways _ no a.1
