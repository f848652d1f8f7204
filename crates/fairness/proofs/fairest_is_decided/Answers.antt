use Rattle.fairness.proofs.Decision.{fairest-decided}
use Rattle.fairness.proofs.fairest_is_decided.Goals as goal

pub returns : goal.returns
returns c = fairest-decided
