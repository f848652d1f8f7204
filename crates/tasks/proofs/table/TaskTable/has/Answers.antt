use Rattle.std.proofs.Common.{sym, ap, ◌∙◌}
use Rattle.std.specs.Str.{bytes_eq}
use Rattle.tasks.specs.Rows.{row_of, taken}
use Rattle.tasks.proofs.Steps.{list_any-map}
use Rattle.tasks.proofs.table.TaskTable.has.Goals as goal

pub returns : goal.returns
returns c = c.is_taken.ensures ∙ sym (list_any-map (λ row. bytes_eq row.name c.args.name.now) row_of c.tasks.result.now) ∙ ap (taken c.args.name.now) c.tasks.ensures
