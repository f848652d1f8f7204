use Rattle.std.proofs.Common.{rules}
use Rattle.std.proofs.lemmas.Str.{IsUtf8-from_ascii}
use Rattle.summary.proofs.Fields.{printable-ascii}
use Rattle.summary.proofs.text_of.Goals as goal

pub unwrap-requires : goal.unwrap-requires
unwrap-requires c =
    let utf8 = IsUtf8-from_ascii c.args.name.now (printable-ascii c.args.name.now c.requires) in
    search (rules, utf8)
