-- How a rule compares two shares, and the laws that every rule keeps.
use Rattle.std.specs.Prelude.{◌≡◌, ℕ, ◌<◌, ◌≤◌, Bool, true, false}
use Rattle.std.specs.declared.cmp.Ordering.{Ordering}
use Rattle.std.specs.declared.cmp.Ordering.TheVariants.{Equal, Greater}
use Rattle.std.specs.Ordering.{is_le, ordering_reverse}
use Rattle.fairness.specs.declared.Share.{Share}

-- the greatest amount that rules tell apart from a smaller one
abbrev pub most_counted : ℕ
most_counted = 16000

abbrev pub Comparison : Type 0
Comparison = Share → Share → Ordering

pub record Lawful (compare : Comparison) : Type 0 where
  pub mirrored : (a b : Share) → compare b a ≡ ordering_reverse (compare a b)
  pub transitive : (a b c : Share) → is_le (compare a b) ≡ true → is_le (compare b c) ≡ true → is_le (compare a c) ≡ true
  pub reflexive : (a : Share) → compare a a ≡ Equal
  pub rising : (a b : Share) → a.task ≡ b.task → a.whole_need ≡ b.whole_need → a.total < b.total → b.total ≤ most_counted → compare b a ≡ Greater
