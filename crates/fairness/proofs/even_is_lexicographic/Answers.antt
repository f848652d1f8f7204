use Rattle.fairness.proofs.Lexicographic.{even-lexicographic}
use Rattle.fairness.proofs.even_is_lexicographic.Goals as goal

pub returns : goal.returns
returns c = even-lexicographic
