use Rattle.std.proofs.Common.{◌≡◌}
use Rattle.changes.specs.Standing.{Standing}
use Rattle.calls.specs.Turns.{phase_at}
use Rattle.plan.specs.Runs.{RanTo, NotesPast}
use Rattle.plan.specs.States.{lent_of, rule_of, phase_of}
use Rattle.plan.proofs.runs.play.Given as goal

-- the lender is told by the names: each state holds the board that the first one held
abbrev pub invariant-loop-place : goal.invariant-loop-place
invariant-loop-place g l =
    let b = g.B.Board in
    let first = (lent_of l.initial.state).now in
    let board = (lent_of l.state).now in
    Standing b.build (g.R.Rule.order (rule_of l.state)) board
    × b.build.kept first board
    × (rule_of l.state ≡ rule_of l.initial.state)
    × (phase_of l.state ≡ phase_at l.calls l.place)
    × ((lent_of l.state).ghost_name ≡ (lent_of l.initial.state).ghost_name)
    × RanTo (g.R.Rule.order (rule_of l.initial.state)) (b.build.meaning first) l.calls l.place l.notes (b.build.meaning board)
    × NotesPast l.place l.initial.notes l.notes
