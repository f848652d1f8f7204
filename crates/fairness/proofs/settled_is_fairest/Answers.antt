use Rattle.fairness.proofs.Theorems.{settled-is-fairest}
use Rattle.fairness.proofs.settled_is_fairest.Goals as goal

pub returns : goal.returns
returns c = settled-is-fairest
