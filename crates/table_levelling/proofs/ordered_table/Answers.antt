use Rattle.std.proofs.Common.{◌≡◌, rules}
use Rattle.board.specs.Meaning.{Meaning}
use Rattle.table_board.specs.Table.{table_of}
use Rattle.table_levelling.specs.Copies.{ordered}
use Rattle.table_levelling.proofs.Copying.{room-on, ordered-again}
use Rattle.table_levelling.proofs.Tables.{NewTable, new-table, table-roomy, table-clear, ordered-mirrors}
use Rattle.table_levelling.proofs.ordered_table.Goals as goal

pub copy_capacities-requires : goal.copy_capacities-requires
copy_capacities-requires g c =
    let from : Meaning = g.B.Board.build.meaning c.args.board.now in
    let new : Meaning = table_of c.make-table.result in
    let made : NewTable from new = new-table from new c.tasks.result c.cores.result _ c.tasks.ensures c.cores.ensures (search rules) c.make-table.ensures.means in
    record { from = c.requires; to = c.make-table.ensures.good; room = table-roomy from new c.requires.sound made; clear = table-clear from new c.requires.sound made }

pub copy_needs-requires : goal.copy_needs-requires
copy_needs-requires g c =
    let from : Meaning = g.B.Board.build.meaning c.args.board.now in
    let new : Meaning = table_of c.make-table.result in
    let made : NewTable from new = new-table from new c.tasks.result c.cores.result _ c.tasks.ensures c.cores.ensures (search rules) c.make-table.ensures.means in
    let capped : Meaning = table_of c.copy_capacities.new.to in
    let with-capacities : capped ≡ ordered new from.capacity (λ _ _. 0) = c.copy_capacities.ensures.copied in
    record {
      from = c.requires;
      to = c.copy_capacities.ensures.went.good;
      room = room-on from new capped from.capacity (λ _ _. 0) with-capacities (table-roomy from new c.requires.sound made);
      clear = ordered-again new capped from.capacity (λ _ _. 0) with-capacities;
    }

pub returns : goal.returns
returns g c =
    let from : Meaning = g.B.Board.build.meaning c.args.board.now in
    let new : Meaning = table_of c.make-table.result in
    let made : NewTable from new = new-table from new c.tasks.result c.cores.result _ c.tasks.ensures c.cores.ensures (search rules) c.make-table.ensures.means in
    let capped : Meaning = table_of c.copy_capacities.new.to in
    record {
      good = c.copy_needs.ensures.went.good;
      mirrors = ordered-mirrors from new capped (table_of c.copy_needs.new.to) (table-roomy from new c.requires.sound made) c.copy_capacities.ensures.copied c.copy_needs.ensures.copied;
    }
