use Rattle.std.proofs.Common.{◌≡◌, true, sym, ap, ◌∙◌, arith, rules}
use Rattle.std.proofs.lemmas.List.{take_at}
use Rattle.std.proofs.lemmas.Bool.Decides.{nat_tests}
use Rattle.tasks.specs.Names.{printable_name, good_name}
use Rattle.tasks.proofs.name.NameTryFromRefSliceU8.try_from.Goals as goal

pub invariant_of-result-clause-shown : goal.invariant_of-result-clause-shown
invariant_of-result-clause-shown c =
    let good : good_name c.args.name.now ≡ true = sym c.is_name.ensures ∙ c.if-not-is_name.false in
    ap printable_name (take_at _ _ _ (search rules) ∙ c.copy_from_slice.ensures.after) ∙ grind (arith, nat_tests)
