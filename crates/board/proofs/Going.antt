-- Calls one after another on one board.
use Rattle.std.proofs.Common.{refl, ap, ◌∙◌}
use Rattle.board.specs.Meaning.{Meaning, SameOrder, planned}
use Rattle.board.specs.Boards.{Build, Good, Went, Rearranged}

-- nothing was done
pub went-nowhere : {S : Type 0} (build : Build S) → (a : S) → Good build a → Went build a a
went-nowhere build a good = record { good = good; keeps = build.keeping.same a }

-- one call more
pub went_on : {S : Type 0} (build : Build S) → (a b c : S) → Went build a b → Good build c → build.kept b c → Went build a c
went_on build a b c went good keeps = record { good = good; keeps = build.keeping.onward a b c went.keeps keeps }

pub order-on : (a b c : Meaning) → SameOrder a b → SameOrder b c → SameOrder a c
order-on a b c p q = q ∙ ap (λ (m : Meaning). planned m c.held) p

pub rearranged-nowhere : {S : Type 0} (build : Build S) (a : S) → Good build a → Rearranged build a a
rearranged-nowhere build a good = record { went = went-nowhere build a good; order = refl }

-- slots were moved twice
pub rearranged-on : {S : Type 0} (build : Build S) (a b c : S) → Rearranged build a b → Rearranged build b c → Rearranged build a c
rearranged-on build a b c p q = record {
  went = went_on build a b c p.went q.went.good q.went.keeps;
  order = order-on (build.meaning a) (build.meaning b) (build.meaning c) p.order q.order;
}
