use Rattle.std.proofs.Common.{◌≡◌, rules, refl, ap, ◌∙◌}
use Rattle.std.specs.Option.{option_map_or}
use Rattle.pair_board.specs.Entries.{blank, entry_at}
use Rattle.pair_board.proofs.Lookups.{says}
use Rattle.pair_board.proofs.PairBoard.entry_for.Goals as goal

pub returns : goal.returns
returns c =
    let b = c.args.self.now in
    let is : c.map_or.result ≡ option_map_or (entry_at b.entries.now) c.find.result blank = search rules in
    let found = c.find.ensures in record {
      need = ap (λ entry. entry.need) is ∙ says (λ entry. entry.need) b.tasks b.cores b.entries.now b.used c.args.task c.args.core c.find.result c.requires.serves.serving found refl;
      held = ap (λ entry. entry.held) is ∙ says (λ entry. entry.held) b.tasks b.cores b.entries.now b.used c.args.task c.args.core c.find.result c.requires.serves.serving found refl;
    }
