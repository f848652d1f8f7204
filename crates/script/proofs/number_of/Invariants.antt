use Rattle.std.proofs.Common.{◌≡◌, drop, Some, fold}
use Rattle.script.specs.Numbers.{with_digit}
use Rattle.script.proofs.number_of.Given as goal

abbrev pub invariant-loop-digit : goal.invariant-loop-digit
invariant-loop-digit l = fold with_digit (Some l.number) (drop l.digit-index l.word) ≡ fold with_digit (Some 0) l.word
