use Rattle.fairness.proofs.Theorems.{fairest-same-levels}
use Rattle.fairness.proofs.same_levels.Goals as goal

pub returns : goal.returns
returns c = fairest-same-levels
