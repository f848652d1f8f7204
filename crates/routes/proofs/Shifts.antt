-- A slot given, then taken.
use Rattle.std.proofs.Common.{◌≡◌, ℕ, ◌+◌, ◌-◌, sym, refl, ap, ◌∙◌, subst, arith}
use Rattle.std.proofs.lemmas.Bool.Decides.{nat_tests}
use Rattle.board.specs.Meaning.{Meaning, Sound, put, with_held}
use Rattle.board.specs.Outcomes.{set_held, done, after}
use Rattle.board.proofs.Changes.{given-put, done_held}
use Rattle.routes.specs.Routes.{MayShift, Shifted}

module _ (m : Meaning) (p j q : ℕ) (so : Sound m) (w : MayShift m p j q) where
  given-up : set_held m q j (m.held q j - 1) ≡ done (with_held m q j (m.held q j - 1))
  given-up = done_held m q j (m.held q j - 1) w.gives w.real (omega (arith, so.covered q j)) (omega (arith, so.fits j w.real))

  abbrev between : Meaning
  between = with_held m q j (m.held q j - 1)

  -- the taker's own is as it was
  still : put m.held q j (m.held q j - 1) p j ≡ m.held p j
  still = grind (arith, nat_tests, w.apart)

  taken-up : set_held between p j (m.held p j + 1) ≡ done (with_held between p j (m.held p j + 1))
  taken-up = done_held between p j (m.held p j + 1) w.takes w.real (omega (arith, w.wants))
      (omega (arith, so.fits j w.real, given-put m q j (m.held q j - 1) w.gives, still, w.some))

  -- by whatever the values are called
  pub both : (b c : Meaning) (u v : ℕ) → u ≡ m.held q j → v ≡ m.held p j → b ≡ after m (set_held m q j (u - 1)) → c ≡ after b (set_held b p j (v + 1)) → c ≡ with_held between p j (m.held p j + 1)
  both b c u v e f g h =
      let g' : b ≡ between = g ∙ (ap (λ u. after m (set_held m q j (u - 1))) e ∙ ap (after m) given-up) in
      let h' : after b (set_held b p j (v + 1)) ≡ after between (set_held between p j (v + 1)) = ap (λ b. after b (set_held b p j (v + 1))) g' in
      h ∙ (h' ∙ (ap (λ v. after between (set_held between p j (v + 1))) f ∙ ap (after between) taken-up))

  pub shifts : Shifted m (with_held between p j (m.held p j + 1)) p j q
  shifts = record {
    same_order = refl;
    moved = λ x y xl yl. grind (arith, nat_tests, w.apart, w.some);
  }

  pub shifted : (b c : Meaning) (u v : ℕ) → u ≡ m.held q j → v ≡ m.held p j → b ≡ after m (set_held m q j (u - 1)) → c ≡ after b (set_held b p j (v + 1)) → Shifted m c p j q
  shifted b c u v e f g h = let P : Meaning → Type 0 = λ c. Shifted m c p j q in subst P (sym (both b c u v e f g h)) shifts
