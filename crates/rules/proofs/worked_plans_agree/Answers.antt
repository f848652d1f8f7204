use Rattle.rules.proofs.WorkedPlans.{worked-plans-agree}
use Rattle.rules.proofs.worked_plans_agree.Goals as goal

pub returns : goal.returns
returns c = worked-plans-agree
