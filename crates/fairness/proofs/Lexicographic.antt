-- Under the even rule, fairer is the same as a greater sorted list.
use Rattle.std.proofs.Common.{◌≡◌, ℕ, ◌<◌, ◌≤◌, cond, not, eqb, leb, ◌⊎◌, get_or, sym, ap, ◌∙◌, inl, inr, arith}
use Rattle.std.specs.declared.cmp.Ordering.TheVariants.{Less}
use Rattle.std.specs.Ordering.{is_le, nat_cmp}
use Rattle.std.proofs.lemmas.Bool.{cases_lt, cases_order, eqb-true, eqb-false, not-true, not-false}
use Rattle.fairness.specs.Plans.{Plan, total, Feasible}
use Rattle.fairness.specs.Laws.{most_counted}
use Rattle.fairness.specs.Levels.{at_or_below, level_at, Fairer, Countable}
use Rattle.fairness.specs.Even.{even, counted}
use Rattle.fairness.specs.Lexicographic.{sorted, Smaller, Equal, EvenLexicographic}
use Rattle.fairness.proofs.Sums.{sum-eq, first-cases}
use Rattle.fairness.proofs.Numbers.{up_to, up_to-le, had-at}
use Rattle.fairness.proofs.Boards.{capped-whole}
use Rattle.fairness.proofs.Sorting.{sorted-length, sorted-from, sorted-to}

-- at some number u has fewer at or below than t, and equally many at each lower number
pub record FewerAt (n : ℕ) (u t : ℕ → ℕ) : Type 0 where
  pub number : ℕ
  pub fewer : up_to n u number < up_to n t number
  pub lower : (w : ℕ) → w < number → up_to n u w ≡ up_to n t w

module _ (n : ℕ) (t u : ℕ → ℕ) where
  counts-smaller : FewerAt n u t → Smaller (sorted n t) (sorted n u)
  counts-smaller f =
      let v : ℕ = f.number in
      let k : ℕ = up_to n u v in
      let low : k < n = omega (arith, f.fewer, up_to-le n t v) in
      record {
        place = k;
        inside = omega (arith, sorted-length n t);
        less = elim (cases_lt v (get_or (sorted n u) k 0)) [
          | inl l ↦ omega (arith, sorted-to n t k v f.fewer)
          | inr l ↦ absurd (omega (arith, sorted-from n u k v low l))
        ];
        before = λ j l.
            let x : ℕ = get_or (sorted n t) j 0 in
            let y : ℕ = get_or (sorted n u) j 0 in
            let xl : x ≤ v = sorted-to n t j v (omega (arith, f.fewer)) in
            let yl : y ≤ v = sorted-to n u j v l in
            elim (cases_order x y) [
              | inl e ↦ e
              | inr o ↦ absurd (elim o [
                | inl less ↦ omega (arith, sorted-to n u j x (omega (arith, f.lower x (omega arith), sorted-from n t j x (omega arith) (omega arith))))
                | inr less ↦ omega (arith, sorted-to n t j y (omega (arith, f.lower y (omega arith), sorted-from n u j y (omega arith) (omega arith))))
              ])
            ];
      }

  smaller-counts : Smaller (sorted n t) (sorted n u) → FewerAt n u t
  smaller-counts s =
      let k : ℕ = s.place in
      let v : ℕ = get_or (sorted n t) k 0 in
      let low : k < n = omega (arith, s.inside, sorted-length n t) in
      let at-most : (w : ℕ) → w ≤ v → up_to n u w ≤ k = λ w l. elim (cases_lt k (up_to n u w)) [
        | inl x ↦ absurd (omega (arith, s.less, sorted-to n u k w x))
        | inr x ↦ x
      ] in
      record {
        number = v;
        fewer = omega (arith, at-most v (omega arith), sorted-from n t k v low (omega arith));
        lower = λ w l. elim (cases_order (up_to n u w) (up_to n t w)) [
          | inl e ↦ e
          | inr o ↦ absurd (elim o [
            | inl x ↦
                let j : ℕ = up_to n u w in
                elim (cases_lt j k) [
                  | inl y ↦ omega (arith, sorted-from n u j w (omega arith) (omega (arith, s.before j y, sorted-to n t j w x)))
                  | inr y ↦ omega (arith, sorted-to n t k w (omega arith))
                ]
            | inr x ↦
                let j : ℕ = up_to n t w in
                omega (arith, at-most w (omega arith), sorted-from n t j w (omega (arith, at-most w (omega arith))) (omega (arith, s.before j (omega (arith, at-most w (omega arith))), sorted-to n u j w x)))
          ])
        ];
      }

  smaller-or-not : Smaller (sorted n t) (sorted n u) ⊎ (Equal (sorted n t) (sorted n u) ⊎ Smaller (sorted n u) (sorted n t))
  smaller-or-not = elim (first-cases n (λ k. not (eqb (get_or (sorted n t) k 0) (get_or (sorted n u) k 0)))) [
    | inl f ↦
        let k : ℕ = f.0 in
        let same : (j : ℕ) → j < k → get_or (sorted n t) j 0 ≡ get_or (sorted n u) j 0 = λ j l. eqb-true _ _ (not-false _ (f.3 j l)) in
        elim (cases_order (get_or (sorted n t) k 0) (get_or (sorted n u) k 0)) [
          | inl e ↦ absurd (eqb-false (get_or (sorted n t) k 0) (get_or (sorted n u) k 0) (not-true _ f.2) e)
          | inr o ↦ elim o [
            | inl l ↦ inl (record { place = k; inside = omega (arith, f.1, sorted-length n t); less = l; before = same })
            | inr l ↦ inr (inr (record { place = k; inside = omega (arith, f.1, sorted-length n u); less = l; before = λ j x. sym (same j x) }))
          ]
        ]
    | inr f ↦ inr (inl (λ k l. eqb-true _ _ (not-false _ (f k (omega (arith, sorted-length n t))))))
  ]

-- a list is not both smaller than another and not smaller
smaller-once : (n : ℕ) (t u : ℕ → ℕ) → Smaller (sorted n t) (sorted n u) → Smaller (sorted n u) (sorted n t) ⊎ Equal (sorted n u) (sorted n t) → ⊥
smaller-once n t u s o = elim o [
  | inl r ↦ elim (cases_order s.place r.place) [
    | inl e ↦ omega (arith, s.less, rw (← e) at r.less)
    | inr x ↦ elim x [ inl l ↦ omega (arith, s.less, r.before s.place l) | inr l ↦ omega (arith, r.less, s.before r.place l) ]
  ]
  | inr same ↦ omega (arith, s.less, same s.place (omega (arith, s.inside, sorted-length n t, sorted-length n u)))
]

at-most-leb : (x y : ℕ) → is_le (nat_cmp x y) ≡ leb x y
at-most-leb x y = grind arith

module _ (n m : ℕ) (need : Plan) (capacity : ℕ → ℕ) (few : Countable n m need) where
  low : (held : Plan) → Feasible n m need capacity held → (i : ℕ) → i < n → total m held i ≤ most_counted
  low held f i l = omega (arith, few i l, capped-whole n m need capacity held f i l)

  even-counts : (held : Plan) → Feasible n m need capacity held → (task slots : ℕ)
      → at_or_below even n m need held (level_at m need task slots) ≡ up_to n (total m held) (counted slots)
  even-counts held f task slots =
      sum-eq n (λ i. cond (is_le (nat_cmp (counted (total m held i)) (counted slots))) 1 0) (λ i. cond (leb (total m held i) (counted slots)) 1 0)
      (λ i l.
      let e : counted (total m held i) ≡ total m held i = omega (arith, low held f i l) in
      rw e (ap (λ b. cond b 1 0) (at-most-leb (total m held i) (counted slots))))

  module _ (first second : Plan) (fine : Feasible n m need capacity first) (also : Feasible n m need capacity second) where
    even-fewer : Fairer even n m need first second → FewerAt n (total m first) (total m second)
    even-fewer f =
        let small : f.slots ≤ most_counted = elim f.had [ inl e ↦ omega (arith, low first fine f.task f.known) | inr e ↦ omega (arith, low second also f.task f.known) ] in
        let exact : counted f.slots ≡ f.slots = omega arith in
        let less : up_to n (total m first) (counted f.slots) < up_to n (total m second) (counted f.slots) =
        omega (arith, f.fewer, even-counts first fine f.task f.slots, even-counts second also f.task f.slots) in
        record {
          number = f.slots;
          fewer = rw exact at less;
          lower = λ w l.
              let here : counted w ≡ w = omega arith in
              rw here at (
              sym (even-counts first fine f.task w)
              ∙ f.lower f.task w f.known (below-lower w f.slots (omega arith))
              ∙ even-counts second also f.task w
              );
        }
      where
        below-lower : (x y : ℕ) → counted x < counted y → nat_cmp (counted x) (counted y) ≡ Less
        below-lower x y l = grind arith

    fewer-even : FewerAt n (total m first) (total m second) → Fairer even n m need first second
    fewer-even f =
        let i = had-at n (total m first) (total m second) f.number (λ e. omega (arith, f.fewer)) f.lower in
        let small : f.number ≤ most_counted = elim i.2 [ inl e ↦ omega (arith, low first fine i.0 i.1) | inr e ↦ omega (arith, low second also i.0 i.1) ] in
        let exact : counted f.number ≡ f.number = omega arith in
        record {
          task = i.0;
          slots = f.number;
          known = i.1;
          had = i.2;
          fewer = rw (even-counts first fine i.0 f.number, even-counts second also i.0 f.number, exact) f.fewer;
          lower = λ other amount l below.
              even-counts first fine other amount
              ∙ f.lower (counted amount) (omega (arith, below_less amount f.number below))
              ∙ sym (even-counts second also other amount);
        }
      where
        below_less : (x y : ℕ) → nat_cmp (counted x) (counted y) ≡ Less → counted x < counted y
        below_less x y e = grind arith

pub even-lexicographic : EvenLexicographic
even-lexicographic n m need capacity few held = (
  λ fairest. record {
    feasible = fairest.feasible;
    greatest = λ other feasible. elim (smaller-or-not n (total m held) (total m other)) [
      | inl s ↦ absurd (fairest.none_fairer other feasible (fewer-even n m need capacity few other held feasible fairest.feasible (smaller-counts n (total m held) (total m other) s)))
      | inr o ↦ elim o [
        | inl e ↦ inr (λ k l. sym (e k (omega (arith, sorted-length n (total m held), sorted-length n (total m other)))))
        | inr s ↦ inl s
      ]
    ];
  },
  λ fair. record {
    feasible = fair.feasible;
    none_fairer = λ other feasible fairer.
        smaller-once n (total m held) (total m other)
        (counts-smaller n (total m held) (total m other) (even-fewer n m need capacity few other held feasible fair.feasible fairer))
        (fair.greatest other feasible);
  },
)
