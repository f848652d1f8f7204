use Rattle.fairness.proofs.Readings.{readings-agree}
use Rattle.fairness.proofs.readings_agree.Goals as goal

pub returns : goal.returns
returns c = readings-agree
