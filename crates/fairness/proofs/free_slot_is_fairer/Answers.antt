use Rattle.fairness.proofs.Theorems.{free-slot-fairer}
use Rattle.fairness.proofs.free_slot_is_fairer.Goals as goal

pub returns : goal.returns
returns c = free-slot-fairer
