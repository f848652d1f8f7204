use Rattle.std.proofs.Common.{◌≡◌, string_bytes}
use Rattle.tasks.specs.Table.{rows}
use Rattle.summary.specs.Lines.{task_lines}
use Rattle.summary.proofs.report_text.Given as goal

abbrev pub invariant-loop-task : goal.invariant-loop-task
invariant-loop-task l = string_bytes l.text ≡ task_lines (rows l.tasks) l.totals l.slots l.task
