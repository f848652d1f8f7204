use Rattle.std.proofs.Common.{ℕ, ◌≤◌, arith}
use Rattle.board.specs.Meaning.{Meaning}
use Rattle.board.proofs.Bounds.{sum_bound}
use Rattle.board.proofs.Board.whole_need.Goals as goal

pub overflow_add-whole : goal.overflow_add-whole
overflow_add-whole g c =
    let m : Meaning = g.Self.Board.build.meaning c.args.self.now in
    let f : ℕ → ℕ = m.need c.args.task in
    let small : (k : ℕ) → f k ≤ 1000 = λ k. c.requires.sound.small c.args.task k in
    omega (arith, c.requires.sound.few_tasks, c.requires.sound.few_cores, sum_bound c.loop-core.core f 1000 small, small c.loop-core.core)
