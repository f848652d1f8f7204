use Rattle.std.proofs.Common.{length, sym, refl, ◌∙◌}
use Rattle.tasks.specs.Table.{rows}
use Rattle.orders.proofs.Lawful.{encodings-read}
use Rattle.order_writer.specs.Writing.{write_why}
use Rattle.round_trips.proofs.Copies.{so-written}
use Rattle.round_trips.proofs.write_and_read.Goals as goal

pub returns-clause-carried : goal.returns-clause-carried
returns-clause-carried g c =
    let first = g.A.Board.build.meaning c.args.first.now in
    let rs = rows c.args.tasks.now in
    let why = write_why c.args.letter rs first (length c.args.out.now) in
    so-written g.B.Board.build first c.args.letter rs c.args.second.now c.read.new.board c.args.second_tasks.now c.read.new.tasks c.args.out.now c.write.new.out encodings-read why refl c.in_ok-length.length c.read.result
    (sym c.write.ensures.told ∙ c.in_ok-length.was) c.write.ensures.left c.requires.first.sound c.requires.second.sound c.args.tasks.now.sound (record { read = c.read.ensures.read; lawful = c.read.ensures.lawful })
