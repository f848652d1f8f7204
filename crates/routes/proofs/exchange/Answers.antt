use Rattle.board.proofs.Going.{went_on}
use Rattle.routes.proofs.Along.{half-may, half-turn}
use Rattle.routes.proofs.exchange.Goals as goal

pub shift-requires-clause-may : goal.shift-requires-clause-may
shift-requires-clause-may g c = half-may _ _ _ _ _ _ _ _ c.requires.route c.loop-step.invariant.1 c.in-Some.ensures.steps

pub loop-step-preserved : goal.loop-step-preserved
loop-step-preserved g c =
    let went = c.shift.ensures.went in
    (went_on g.B.Board.build _ _ _ c.loop-step.invariant.0 went.good went.keeps, half-turn _ _ _ _ _ _ _ _ c.requires.route c.loop-step.invariant.1 c.in-Some.ensures.steps _ c.shift.ensures.shifted)
