-- What one improvement more, or none, makes of a board on which slots were moved.
use Rattle.std.proofs.Common.{refl, sym, subst}
use Rattle.fairness.specs.Laws.{Comparison, Lawful}
use Rattle.board.specs.Meaning.{Meaning, SameOrder}
use Rattle.board.specs.Boards.{Build, Went, Rearranged}
use Rattle.board.proofs.Going.{rearranged-on}
use Rattle.levelling.specs.Levelled.{Better, Stands, Levelled, FairestOn}
use Rattle.levelling.proofs.Measure.{stands-fairest}

module _ {S : Type 0} (build : Build S) (compare : Comparison) (a b c : S) where
  pub improved-on : Rearranged build a b → Went build b c → Better compare (build.meaning b) (build.meaning c) → Rearranged build a c
  improved-on before went better = rearranged-on build a b c before (record { went = went; order = better.same_order })

  pub levelled-at : Lawful compare → Rearranged build a b → Went build b c → Stands compare (build.meaning b) (build.meaning c) → Levelled build compare a c
  levelled-at lawful before went stands =
      let m : Meaning = build.meaning b in
      let Same : Meaning → Type 0 = λ z. SameOrder m z in
      let Fair : Meaning → Type 0 = FairestOn compare in
      let all = rearranged-on build a b c before (record { went = went; order = subst Same (sym stands.same) refl }) in
      record {
        went = all.went;
        order = all.order;
        fairest = subst Fair (sym stands.same) (stands-fairest compare lawful m before.went.good.sound stands.settled);
      }
