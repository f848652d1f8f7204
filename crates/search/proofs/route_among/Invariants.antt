use Rattle.board.specs.Meaning.{Meaning}
use Rattle.search.specs.Gains.{SafeFlags}
use Rattle.search.specs.Founds.{NothingToGain}
use Rattle.search.proofs.route_among.Given as goal

abbrev pub invariant-loop-gainer : goal.invariant-loop-gainer
invariant-loop-gainer g l =
    let m : Meaning = g.B.Board.build.meaning l.board in
    NothingToGain (g.R.Rule.order l.rule) m l.from l.gainer l.initial.steps l.steps × SafeFlags (g.R.Rule.order l.rule) m l.safe
