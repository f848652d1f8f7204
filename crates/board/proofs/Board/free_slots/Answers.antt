use Rattle.std.proofs.Common.{ℕ, ◌≤◌, arith}
use Rattle.board.specs.Meaning.{Meaning, free_at}
use Rattle.board.proofs.Bounds.{sum_bound, free-small}
use Rattle.board.proofs.Board.free_slots.Goals as goal

pub overflow_add-free : goal.overflow_add-free
overflow_add-free g c =
    let m : Meaning = g.Self.Board.build.meaning c.args.self.now in
    let f : ℕ → ℕ = free_at m in
    let small : (k : ℕ) → f k ≤ 1000 = λ k. free-small m c.requires.sound k in
    omega (arith, c.requires.sound.few_tasks, c.requires.sound.few_cores, sum_bound c.loop-core.core f 1000 small, small c.loop-core.core)
