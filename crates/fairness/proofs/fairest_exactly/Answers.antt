use Rattle.fairness.proofs.Theorems.{fairest-exactly}
use Rattle.fairness.proofs.fairest_exactly.Goals as goal

pub returns : goal.returns
returns c = fairest-exactly
