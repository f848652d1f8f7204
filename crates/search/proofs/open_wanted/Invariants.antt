use Rattle.search.specs.Searches.{Spread}
use Rattle.search.proofs.open_wanted.Given as goal

abbrev pub invariant-loop-core : goal.invariant-loop-core
invariant-loop-core g l = Spread (g.B.Board.build.meaning l.board) l.initial.search l.search l.place l.core
