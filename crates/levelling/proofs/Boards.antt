-- The plan of a sound board meets what the theory of fairness asks of plans.
use Rattle.std.proofs.Common.{arith}
use Rattle.fairness.specs.Plans.{Feasible}
use Rattle.fairness.specs.Levels.{Countable}
use Rattle.board.specs.Meaning.{Meaning, Sound}
use Rattle.board.proofs.Bounds.{sum_bound}

pub feasible : (m : Meaning) → Sound m → Feasible m.tasks m.cores m.need m.capacity m.held
feasible m so = record { within = λ task core _ _. so.covered task core; room = so.fits }

pub countable : (m : Meaning) → Sound m → Countable m.tasks m.cores m.need
countable m so task _ = omega (arith, sum_bound m.cores (m.need task) 1000 (so.small task), so.few_cores)
