-- What a task should gain, a more urgent one should gain too; so a search in vain speaks for all tasks that it found.
use Rattle.std.proofs.Common.{◌≡◌, ℕ, Bool, true, false, ◌&&◌, ◌||◌, List, set, sym, refl, ap, ◌∙◌, subst, inl, inr}
use Rattle.std.specs.declared.cmp.Ordering.{Ordering}
use Rattle.std.specs.declared.cmp.Ordering.TheVariants.{Less, Equal, Greater}
use Rattle.std.specs.Ordering.{is_le, is_lt, is_eq, ordering_reverse}
use Rattle.std.proofs.lemmas.List.{get_or-set_other}
use Rattle.std.proofs.lemmas.Bool.{cases_eq, both_ways, and_parts, and_from, or_cases, or_left, or_right, false_from_ne_true}
use Rattle.fairness.specs.declared.Share.{Share}
use Rattle.fairness.specs.Laws.{Comparison, Lawful}
use Rattle.fairness.specs.Routes.{should_gain, risen, fallen}
use Rattle.board.specs.Meaning.{Meaning}
use Rattle.search.specs.Gains.{as_urgent, SafeOn, SafeFlags, NoneFreeOn}

below-mirror : (r : Ordering) → is_lt r ≡ true → is_le (ordering_reverse r) ≡ false
below-mirror Less h = refl
below-mirror Equal h = absurd (both_ways _ refl h)
below-mirror Greater h = absurd (both_ways _ refl h)

mirror-below : (r : Ordering) → is_le (ordering_reverse r) ≡ false → is_lt r ≡ true
mirror-below Less h = refl
mirror-below Equal h = absurd (both_ways _ h refl)
mirror-below Greater h = absurd (both_ways _ h refl)

level-most : (r : Ordering) → is_eq r ≡ true → (is_le r ≡ true) × (is_le (ordering_reverse r) ≡ true)
level-most Less h = absurd (both_ways _ refl h)
level-most Equal h = (refl, refl)
level-most Greater h = absurd (both_ways _ refl h)

most-level : (r : Ordering) → is_le r ≡ true → is_le (ordering_reverse r) ≡ true → is_eq r ≡ true
most-level Less h k = absurd (both_ways _ refl k)
most-level Equal h k = refl
most-level Greater h k = absurd (both_ways _ refl h)

below-most : (r : Ordering) → is_lt r ≡ true → is_le r ≡ true
below-most Less h = refl
below-most Equal h = refl
below-most Greater h = absurd (both_ways _ refl h)

module _ (compare : Comparison) (lawful : Lawful compare) where
  not_back : (a b : Share) → is_lt (compare a b) ≡ true → is_le (compare b a) ≡ false
  not_back a b h = ap is_le (lawful.mirrored a b) ∙ below-mirror (compare a b) h

  below-if : (a b : Share) → (is_le (compare b a) ≡ true → ⊥) → is_lt (compare a b) ≡ true
  below-if a b f = mirror-below (compare a b) (sym (ap is_le (lawful.mirrored a b)) ∙ false_from_ne_true (is_le (compare b a)) f)

  below_then : (a b c : Share) → is_lt (compare a b) ≡ true → is_le (compare b c) ≡ true → is_lt (compare a c) ≡ true
  below_then a b c l u = below-if a c (λ h. both_ways _ (not_back a b l) (lawful.transitive b c a u h))

  then-below : (a b c : Share) → is_le (compare a b) ≡ true → is_lt (compare b c) ≡ true → is_lt (compare a c) ≡ true
  then-below a b c u l = below-if a c (λ h. both_ways _ (not_back b c l) (lawful.transitive c a b h u))

  level-then : (a b c : Share) → is_eq (compare a b) ≡ true → is_eq (compare b c) ≡ true → is_eq (compare a c) ≡ true
  level-then a b c p q =
      let x = level-most (compare a b) p in
      let y = level-most (compare b c) q in
      let back : is_le (compare c a) ≡ true = lawful.transitive c b a (ap is_le (lawful.mirrored b c) ∙ y.1) (ap is_le (lawful.mirrored a b) ∙ x.1) in
      most-level (compare a c) (lawful.transitive a b c x.0 y.0) (sym (ap is_le (lawful.mirrored a c)) ∙ back)

  pub urgent-self : (a : Share) → as_urgent compare a a ≡ true
  urgent-self a = ap (λ r. is_lt r || (is_eq r && is_le (compare (risen a) (risen a)))) (lawful.reflexive a) ∙ ap is_le (lawful.reflexive (risen a))

  pub gains-follow : (a b l : Share) → as_urgent compare a b ≡ true → should_gain compare b l ≡ true → should_gain compare a l ≡ true
  gains-follow a b l urgent gains =
      let low : Share = fallen l in
      let left : is_lt (compare a low) ≡ true → should_gain compare a l ≡ true = or_left (is_lt (compare a low)) (is_eq (compare a low) && is_lt (compare l (risen a))) in
      elim (or_cases (is_lt (compare a b)) (is_eq (compare a b) && is_le (compare (risen b) (risen a))) urgent) [
        | inl lower ↦ elim (or_cases (is_lt (compare b low)) (is_eq (compare b low) && is_lt (compare l (risen b))) gains) [
          | inl below ↦ left (below_then a b low lower (below-most (compare b low) below))
          | inr level ↦ left (below_then a b low lower (level-most (compare b low) (and_parts (is_eq (compare b low)) (is_lt (compare l (risen b))) level).0).0)
        ]
        | inr same ↦
            let even = and_parts (is_eq (compare a b)) (is_le (compare (risen b) (risen a))) same in
            elim (or_cases (is_lt (compare b low)) (is_eq (compare b low) && is_lt (compare l (risen b))) gains) [
              | inl below ↦ left (then-below a b low (level-most (compare a b) even.0).0 below)
              | inr level ↦
                  let tie = and_parts (is_eq (compare b low)) (is_lt (compare l (risen b))) level in
                  or_right (is_lt (compare a low)) (is_eq (compare a low) && is_lt (compare l (risen a)))
                  (and_from (is_eq (compare a low)) (is_lt (compare l (risen a))) (level-then a b low even.0 tie.0) (below_then l (risen b) (risen a) tie.1 even.1))
            ]
      ]

-- one more flag
pub flagged : (compare : Comparison) (m : Meaning) (flags : List Bool) (task : ℕ) → SafeFlags compare m flags → (NoneFreeOn m → SafeOn compare m task) → SafeFlags compare m (set flags task true)
flagged compare m flags task all one none k l on = elim (cases_eq k task) [
  | inl e ↦ (let P : ℕ → Type 0 = SafeOn compare m in subst P (sym e) (one none))
  | inr ne ↦ all none k l (sym (get_or-set_other flags task k true false ne) ∙ on)
]
