use Rattle.std.proofs.Common.{ℕ, ◌≤◌, arith}
use Rattle.board.specs.Meaning.{Meaning}
use Rattle.board.proofs.Bounds.{sum_bound, held_small}
use Rattle.board.proofs.Board.total.Goals as goal

pub overflow_add-total : goal.overflow_add-total
overflow_add-total g c =
    let m : Meaning = g.Self.Board.build.meaning c.args.self.now in
    let f : ℕ → ℕ = m.held c.args.task in
    let small : (k : ℕ) → f k ≤ 1000 = λ k. held_small m c.requires.sound c.args.task k in
    omega (arith, c.requires.sound.few_tasks, c.requires.sound.few_cores, sum_bound c.loop-core.core f 1000 small, small c.loop-core.core)
