use Rattle.board.specs.Meaning.{Meaning}
use Rattle.table_board.specs.Table.{table_of}
use Rattle.table_levelling.specs.Copies.{Mirrors}
use Rattle.table_levelling.proofs.Tables.{planned-mirrors, mirror-holds, holds-mirror, fairest-back, planned-order}
use Rattle.table_levelling.proofs.level_on_table.Goals as goal

pub bring_slots-requires : goal.bring_slots-requires
bring_slots-requires g c =
    let from : Meaning = g.B.Board.build.meaning c.args.board.now in
    record { from = c.requires; to = c.ordered_table-table.ensures.good; holds = mirror-holds from (table_of c.ordered_table-table.result) c.requires.sound c.ordered_table-table.ensures.mirrors }

pub bring_slots-requires-2 : goal.bring_slots-requires-2
bring_slots-requires-2 g c =
    let from : Meaning = g.B.Board.build.meaning c.args.board.now in
    let asked : Meaning = table_of c.ordered_table-table.result in
    let filled : Meaning = table_of c.bring_slots.new.to in
    let fair : Meaning = table_of c.level.new.board in
    let all : Mirrors from fair = planned-mirrors from filled fair fair.held c.level.ensures.order (planned-mirrors from asked filled from.held c.bring_slots.ensures.brought c.ordered_table-table.ensures.mirrors) in
    record { from = c.level.ensures.went.good; to = c.requires; holds = holds-mirror from fair c.level.ensures.went.good.sound all }

pub returns : goal.returns
returns g c =
    let from : Meaning = g.B.Board.build.meaning c.args.board.now in
    let asked : Meaning = table_of c.ordered_table-table.result in
    let filled : Meaning = table_of c.bring_slots.new.to in
    let fair : Meaning = table_of c.level.new.board in
    let all : Mirrors from fair = planned-mirrors from filled fair fair.held c.level.ensures.order (planned-mirrors from asked filled from.held c.bring_slots.ensures.brought c.ordered_table-table.ensures.mirrors) in
    let back : Meaning = g.B.Board.build.meaning c.bring_slots-2.new.to in
    let brought = c.bring_slots-2.ensures.brought in
    record {
      went = c.bring_slots-2.ensures.went;
      order = planned-order from back fair.held brought;
      fairest = fairest-back (g.R.Rule.order c.args.rule) from fair back all c.level.ensures.fairest brought;
    }
