-- What a rule keeps, it keeps on each board.
use Rattle.std.proofs.Common.{ℕ, suc, ◌<◌, ◌≤◌, refl, arith}
use Rattle.fairness.specs.Laws.{Comparison, Lawful, most_counted}
use Rattle.fairness.specs.Levels.{share_with}
use Rattle.fairness.proofs.Orders.{Laws, Rising, on_board}

pub on-board-laws : (compare : Comparison) (whole : ℕ → ℕ) → Lawful compare → Laws (on_board compare whole)
on-board-laws compare whole lawful = record {
  mirrored = λ i x k y. lawful.mirrored (share_with whole i x) (share_with whole k y);
  transitive = λ i x k y l z. lawful.transitive (share_with whole i x) (share_with whole k y) (share_with whole l z);
}

pub on-board-rising : (compare : Comparison) (whole : ℕ → ℕ) → Lawful compare → (n : ℕ) (cap : ℕ → ℕ) → ((i : ℕ) → i < n → cap i ≤ most_counted) → Rising (on_board compare whole) n cap
on-board-rising compare whole lawful n cap few i x l u =
    let low = share_with whole i x in
    let high = share_with whole i (suc x) in
    grind (arith, lawful.mirrored high low, lawful.rising low high refl refl (omega arith) (omega (arith, few i l)))
