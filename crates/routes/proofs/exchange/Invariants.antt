use Rattle.board.specs.Boards.{Went}
use Rattle.routes.proofs.Along.{Halfway}
use Rattle.routes.proofs.exchange.Given as goal

abbrev pub invariant-loop-step : goal.invariant-loop-step
invariant-loop-step g l =
    let b = g.B.Board in
    Went b.build l.initial.board l.board
    × Halfway (b.build.meaning l.initial.board) (b.build.meaning l.board) l.route l.step-iterator.iter.rest.now l.loser l.giver
