use Rattle.fairness.proofs.Theorems.{levelling-ends}
use Rattle.fairness.proofs.levelling_ends.Goals as goal

pub returns : goal.returns
returns c = levelling-ends
