use Rattle.board.proofs.Going.{went_on}
use Rattle.changes.proofs.change_capacity.Goals as goal

pub returns-clause-went : goal.returns-clause-went
returns-clause-went g c =
    let b = g.B.Board in
    let went = went_on b.build c.args.board.now c.fit_capacity.new.board c.set_capacity.new.self c.fit_capacity.ensures.rearranged.went c.set_capacity.ensures.good c.set_capacity.ensures.keeps in
    let levelled = c.level_on_table.ensures in
    went_on b.build c.args.board.now c.set_capacity.new.self c.level_on_table.new.board went levelled.went.good levelled.went.keeps
