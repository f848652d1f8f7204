use Rattle.std.proofs.Common.{◌≡◌, ℕ, ◌<◌, None}
use Rattle.board.specs.Meaning.{Meaning}
use Rattle.levelling.specs.Levelled.{FreeFor}
use Rattle.levelling.proofs.free_pair.Given as goal

abbrev pub invariant-cores : goal.invariant-cores
invariant-cores g l =
    let m : Meaning = g.B.Board.build.meaning l.board in
    (l.pair ≡ None) × ((task core : ℕ) → core < l.core → FreeFor m task core → ⊥)

abbrev pub invariant-loop-task : goal.invariant-loop-task
invariant-loop-task g l =
    let m : Meaning = g.B.Board.build.meaning l.board in
    (l.pair ≡ None) × ((task : ℕ) → task < l.task → FreeFor m task l.core → ⊥)
