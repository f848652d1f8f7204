use Rattle.fairness.proofs.Theorems.{fairest-is-settled}
use Rattle.fairness.proofs.fairest_is_settled.Goals as goal

pub returns : goal.returns
returns c = fairest-is-settled
