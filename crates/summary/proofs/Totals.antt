-- The first totals of a list, added up.
use Rattle.std.proofs.Common.{◌≡◌, ℕ, zero, suc, ◌+◌, ◌≤◌, List, length, take, sum, get_or, refl, ap, ◌∙◌, add-one, arith}
use Rattle.std.proofs.lemmas.List.Sums.{sum_by_more}
use Rattle.fairness.specs.Sums.{sum_to}

pub first-totals : (totals : List ℕ) (count : ℕ) → count ≤ length totals → sum (take count totals) ≡ sum_to count (λ task. get_or totals task 0)
first-totals totals zero within = refl
first-totals totals (suc count) within =
    let more = sum_by_more (λ total. total) totals count 0 (omega arith) in
    rw add-one at more ∙ ap (λ z. z + get_or totals count 0) (first-totals totals count (omega arith))
