use Rattle.std.proofs.Common.{ℕ, ◌≤◌, arith}
use Rattle.board.specs.Meaning.{Meaning}
use Rattle.board.proofs.Bounds.{sum_bound, held_small}
use Rattle.board.proofs.Board.given.Goals as goal

pub overflow_add-given : goal.overflow_add-given
overflow_add-given g c =
    let m : Meaning = g.Self.Board.build.meaning c.args.self.now in
    let f : ℕ → ℕ = λ task. m.held task c.args.core in
    let small : (k : ℕ) → f k ≤ 1000 = λ k. held_small m c.requires.sound k c.args.core in
    omega (arith, c.requires.sound.few_tasks, c.requires.sound.few_cores, sum_bound c.loop-task.task f 1000 small, small c.loop-task.task)
