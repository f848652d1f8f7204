use Rattle.std.proofs.Common.{◌≡◌, ◌≤◌, ◌*◌, ◌^◌, sum, length, mul-le-mul_right, arith, rules}
use Rattle.std.proofs.lemmas.List.Elements.{All-from_get_or}
use Rattle.std.proofs.lemmas.List.Sums.{sum_by-le}
use Rattle.summary.proofs.all_slots.Goals as goal

pub overflow_add-result : goal.overflow_add-result
overflow_add-result c =
    let totals = c.args.totals.now in
    let most : sum totals ≤ length totals * (2 ^ 32) = sum_by-le (λ total. total) (2 ^ 32) totals (All-from_get_or (λ total. total ≤ 2 ^ 32) totals 0 (λ i l. omega (arith, c.type_inv.totals i))) in
    let all : c.sum.result ≡ sum totals = search rules in
    omega (arith, mul-le-mul_right (2 ^ 32) c.requires)
