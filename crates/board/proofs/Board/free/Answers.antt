use Rattle.std.proofs.Common.{arith}
use Rattle.board.proofs.Bounds.{given-within}
use Rattle.board.proofs.Board.free.Goals as goal

pub overflow_sub-result : goal.overflow_sub-result
overflow_sub-result g c = omega (arith, given-within (g.Self.Board.build.meaning c.args.self.now) c.requires.sound c.args.core)
