-- A plan in either state, while a run is played.
use Rattle.std.specs.Borrow.{MutBor}
use Rattle.plan.specs.declared.runs.State.{State}
use Rattle.calls.specs.declared.Phase.{Phase}
use Rattle.calls.specs.declared.Phase.TheVariants.{Working as working, Released as released}
use Rattle.plan.specs.declared.runs.State.TheVariants.{Working, Released}

abbrev pub lent_of : {B R : Type 0} → State B R → MutBor B
lent_of (Working plan) = plan.board
lent_of (Released plan) = plan.board

abbrev pub rule_of : {B R : Type 0} → State B R → R
rule_of (Working plan) = plan.rule
rule_of (Released plan) = plan.rule

abbrev pub phase_of : {B R : Type 0} → State B R → Phase
phase_of (Working plan) = working
phase_of (Released plan) = released
