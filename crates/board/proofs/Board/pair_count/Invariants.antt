use Rattle.std.proofs.Common.{◌≡◌, ◌+◌, ◌*◌, ◌≤◌}
use Rattle.fairness.specs.Sums.{sum_to}
use Rattle.board.specs.Meaning.{Meaning, needed}
use Rattle.board.proofs.Board.pair_count.Given as goal

abbrev pub invariant-loop-task : goal.invariant-loop-task
invariant-loop-task g l =
    let m : Meaning = g.Self.Board.build.meaning l.self in
    (l.count ≡ sum_to l.task (λ task. sum_to m.cores (λ core. needed (m.need task core)))) × (l.count ≤ 16 * l.task)

abbrev pub invariant-loop-core : goal.invariant-loop-core
invariant-loop-core g l =
    let m : Meaning = g.Self.Board.build.meaning l.self in
    (l.count ≡ sum_to l.task (λ task. sum_to m.cores (λ core. needed (m.need task core))) + sum_to l.core (λ core. needed (m.need l.task core)))
    × (l.count ≤ 16 * l.task + l.core)
