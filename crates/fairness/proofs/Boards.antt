-- No feasible plan gives a task more than its whole need.
use Rattle.std.proofs.Common.{ℕ}
use Rattle.fairness.specs.Plans.{Plan, total, Feasible}
use Rattle.fairness.proofs.Sums.{sum-le}
use Rattle.fairness.proofs.Steps.{Capped}

pub capped-whole : (n m : ℕ) (need : Plan) (capacity : ℕ → ℕ) (held : Plan) → Feasible n m need capacity held → Capped n m (total m need) held
capped-whole n m need capacity held feasible i l = sum-le m (held i) (need i) (λ j u. feasible.within i j l u)
