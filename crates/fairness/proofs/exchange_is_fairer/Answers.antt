use Rattle.fairness.proofs.Theorems.{exchange-fairer}
use Rattle.fairness.proofs.exchange_is_fairer.Goals as goal

pub returns : goal.returns
returns c = exchange-fairer
