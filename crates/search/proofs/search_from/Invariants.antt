use Rattle.std.proofs.Common.{◌-◌}
use Rattle.board.specs.Meaning.{Meaning}
use Rattle.search.specs.Searches.{Trying}
use Rattle.search.proofs.search_from.Given as goal

abbrev pub invariant-loop-head : goal.invariant-loop-head
invariant-loop-head g l =
    let m : Meaning = g.B.Board.build.meaning l.board in
    Trying (g.R.Rule.order l.rule) m l.gainer l.search l.head

abbrev pub decreases-loop-head : goal.decreases-loop-head
decreases-loop-head g l = 64 - l.head
