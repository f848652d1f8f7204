-- What an entry changed, added or taken out does to the amounts, and that the entries still serve.
use Rattle.std.proofs.Common.{◌≡◌, ℕ, ◌+◌, ◌<◌, ◌≤◌, true, false, cond, ◌&&◌, eqb, List, length, set, sym, ap, ◌∙◌, inl, inr, arith}
use mathlib.Core.Path.{fun_ext}
use Rattle.std.proofs.lemmas.List.{get_or-set_same, get_or-set_other}
use Rattle.std.proofs.lemmas.Bool.Decides.{nat_tests}
use Rattle.std.proofs.lemmas.Bool.{cases_eq, cases_Bool, cond-true, cond-false, eq-eqb, ne_eqb, true≢false}
use Rattle.fairness.specs.Sums.{sum_to}
use Rattle.fairness.proofs.Sums.{sum-eq, sum-point, sum_more}
use Rattle.board.specs.Meaning.{put}
use Rattle.pair_board.specs.declared.entry.Entry.{Entry}
use Rattle.pair_board.specs.Entries.{blank, entry_at, is_for, amounts, Absent, At, Serving}
use Rattle.pair_board.proofs.Lookups.{part, is-task, is-core, for-pair, not-for, absent_none, at-found}

-- the pair that a number is put for, and any other
put-for : (plan : ℕ → ℕ → ℕ) (entry : Entry) (task core amount t c : ℕ) → entry.task ≡ task → entry.core ≡ core → is_for entry t c ≡ true → put plan task core amount t c ≡ amount
put-for plan entry task core amount t c e f h =
    let et : t ≡ task = sym (is-task entry t c h) ∙ e in
    let ec : c ≡ core = sym (is-core entry t c h) ∙ f in
    cond-true (eqb t task && eqb c core) amount (plan t c) (grind (arith, nat_tests))

put-past : (plan : ℕ → ℕ → ℕ) (entry : Entry) (task core amount t c : ℕ) → entry.task ≡ task → entry.core ≡ core → is_for entry t c ≡ false → put plan task core amount t c ≡ plan t c
put-past plan entry task core amount t c e f h = grind (arith, nat_tests)

-- entries that stand elsewhere, each once, serve as well
moved : (n m : ℕ) (entries fresh : List Entry) (used now : ℕ) (from : ℕ → ℕ) → ((i : ℕ) → i < now → from i < used)
    → ((i j : ℕ) → i < now → j < now → from i ≡ from j → i ≡ j) → ((i : ℕ) → i < now → entry_at fresh i ≡ entry_at entries (from i))
    → Serving n m entries used → Serving n m fresh now
moved n m entries fresh used now from inside once same s = record {
  on_tasks = λ i l. rw (same i l) (s.on_tasks (from i) (inside i l));
  on_cores = λ i l. rw (same i l) (s.on_cores (from i) (inside i l));
  some = λ i l. rw (same i l) (s.some (from i) (inside i l));
  alone = λ i j l k e f. once i j l k (s.alone (from i) (from j) (inside i l) (inside j k)
      (sym (ap (λ x. x.task) (same i l)) ∙ e ∙ ap (λ x. x.task) (same j k))
      (sym (ap (λ x. x.core) (same i l)) ∙ f ∙ ap (λ x. x.core) (same j k)));
}

-- the entry of a pair is changed
module _ (n m : ℕ) (entries : List Entry) (used here : ℕ) (entry : Entry) (task core : ℕ) (serving : Serving n m entries used)
    (found : At entries used task core here) (fits : used ≤ length entries) (et : entry.task ≡ task) (ec : entry.core ≡ core) (some : 0 < entry.need) where
  written : entry_at (set entries here entry) here ≡ entry
  written = get_or-set_same entries here entry blank (omega (arith, found.0))

  apart : (i : ℕ) → (i ≡ here → ⊥) → entry_at (set entries here entry) i ≡ entry_at entries i
  apart i ne = get_or-set_other entries here i entry blank ne

  same-task : (i : ℕ) → (entry_at (set entries here entry) i).task ≡ (entry_at entries i).task
  same-task i = elim (cases_eq i here) [
    | inl e ↦ rw e (ap (λ x. x.task) written ∙ et ∙ sym (is-task (entry_at entries here) task core found.1))
    | inr ne ↦ ap (λ x. x.task) (apart i ne)
  ]

  same_core : (i : ℕ) → (entry_at (set entries here entry) i).core ≡ (entry_at entries i).core
  same_core i = elim (cases_eq i here) [
    | inl e ↦ rw e (ap (λ x. x.core) written ∙ ec ∙ sym (is-core (entry_at entries here) task core found.1))
    | inr ne ↦ ap (λ x. x.core) (apart i ne)
  ]

  pub changed-serving : Serving n m (set entries here entry) used
  changed-serving = record {
    on_tasks = λ i l. rw (same-task i) (serving.on_tasks i l);
    on_cores = λ i l. rw (same_core i) (serving.on_cores i l);
    some = λ i l. elim (cases_eq i here) [
      | inl e ↦ rw (e, written) some
      | inr ne ↦ rw (apart i ne) (serving.some i l)
    ];
    alone = λ i j l k e f. serving.alone i j l k (sym (same-task i) ∙ e ∙ same-task j) (sym (same_core i) ∙ f ∙ same_core j);
  }

  pub changed : (amount : Entry → ℕ) → amounts amount (set entries here entry) used ≡ put (amounts amount entries used) task core (amount entry)
  changed amount = fun_ext (λ t. fun_ext (λ c. elim (cases_Bool (is_for entry t c)) [
    | inl h ↦
        at-found amount n m (set entries here entry) used t c here changed-serving (found.0, ap (λ x. is_for x t c) written ∙ h)
        ∙ ap amount written ∙ sym (put-for (amounts amount entries used) entry task core (amount entry) t c et ec h)
    | inr h ↦
        sum-eq used (part amount (set entries here entry) t c) (part amount entries t c) (λ i l. elim (cases_eq i here) [
          | inl e ↦ rw e (cond-false _ _ _ (ap (λ x. is_for x t c) written ∙ h)
              ∙ sym (cond-false _ _ _ (not-for (entry_at entries here) t c (λ a b. true≢false (sym (for-pair entry t c (et ∙ sym (is-task (entry_at entries here) task core found.1) ∙ a) (ec ∙ sym (is-core (entry_at entries here) task core found.1) ∙ b)) ∙ h)))))
          | inr ne ↦ ap (λ x. cond (is_for x t c) (amount x) 0) (apart i ne)
        ])
        ∙ sym (put-past (amounts amount entries used) entry task core (amount entry) t c et ec h)
  ]))

-- an entry is added after those in use
module _ (n m : ℕ) (entries : List Entry) (used : ℕ) (entry : Entry) (task core : ℕ) (serving : Serving n m entries used)
    (absent : Absent entries used task core) (fits : used < length entries) (et : entry.task ≡ task) (ec : entry.core ≡ core) where
  new-entry : entry_at (set entries used entry) used ≡ entry
  new-entry = get_or-set_same entries used entry blank fits

  old-entry : (i : ℕ) → i < used → entry_at (set entries used entry) i ≡ entry_at entries i
  old-entry i l = get_or-set_other entries used i entry blank (λ e. omega arith)

  pub added : (amount : Entry → ℕ) → amounts amount (set entries used entry) (used + 1) ≡ put (amounts amount entries used) task core (amount entry)
  added amount = fun_ext (λ t. fun_ext (λ c.
      let more = sum_more used (part amount (set entries used entry) t c) in
      let before : sum_to used (part amount (set entries used entry) t c) ≡ amounts amount entries used t c =
      sum-eq used (part amount (set entries used entry) t c) (part amount entries t c) (λ i l. ap (λ x. cond (is_for x t c) (amount x) 0) (old-entry i l)) in
      let mine : part amount (set entries used entry) t c used ≡ cond (is_for entry t c) (amount entry) 0 = ap (λ x. cond (is_for x t c) (amount x) 0) new-entry in
      elim (cases_Bool (is_for entry t c)) [
        | inl h ↦
            let whole : cond (is_for entry t c) (amount entry) 0 ≡ amount entry = cond-true _ _ _ h in
            let none : amounts amount entries used t c ≡ 0 = absent_none amount entries used t c (λ i l. rw (sym (is-task entry t c h) ∙ et, sym (is-core entry t c h) ∙ ec) (absent i l)) in
            let put_is = put-for (amounts amount entries used) entry task core (amount entry) t c et ec h in
            omega (arith, more, before, mine, whole, none, put_is)
        | inr h ↦
            let none : cond (is_for entry t c) (amount entry) 0 ≡ 0 = cond-false _ _ _ h in
            let put_is = put-past (amounts amount entries used) entry task core (amount entry) t c et ec h in
            omega (arith, more, before, mine, none, put_is)
      ]))

  new-task : (i : ℕ) → i ≡ used → (entry_at (set entries used entry) i).task ≡ entry.task
  new-task i e = ap (λ x. (entry_at (set entries used entry) x).task) e ∙ ap (λ x. x.task) new-entry

  new-core : (i : ℕ) → i ≡ used → (entry_at (set entries used entry) i).core ≡ entry.core
  new-core i e = ap (λ x. (entry_at (set entries used entry) x).core) e ∙ ap (λ x. x.core) new-entry

  -- no entry in use is for the pair of the new one
  clash : (i : ℕ) → i < used → (entry_at entries i).task ≡ entry.task → (entry_at entries i).core ≡ entry.core → ⊥
  clash i l e f = true≢false (sym (for-pair (entry_at entries i) task core (e ∙ et) (f ∙ ec)) ∙ absent i l)

  -- it is on the board and has a need
  pub added-serving : task < n → core < m → 0 < entry.need → Serving n m (set entries used entry) (used + 1)
  added-serving tn cm some = record {
    on_tasks = λ i l. elim (cases_eq i used) [
      | inl e ↦ rw (e, new-entry, et) tn
      | inr ne ↦ rw (old-entry i (omega arith)) (serving.on_tasks i (omega arith))
    ];
    on_cores = λ i l. elim (cases_eq i used) [
      | inl e ↦ rw (e, new-entry, ec) cm
      | inr ne ↦ rw (old-entry i (omega arith)) (serving.on_cores i (omega arith))
    ];
    some = λ i l. elim (cases_eq i used) [
      | inl e ↦ rw (e, new-entry) some
      | inr ne ↦ rw (old-entry i (omega arith)) (serving.some i (omega arith))
    ];
    alone = λ i j l k e f. elim (cases_eq i used) [
      | inl ei ↦ elim (cases_eq j used) [
        | inl ej ↦ ei ∙ sym ej
        | inr nj ↦
            let below : j < used = omega arith in
            absurd (clash j below (sym (ap (λ x. x.task) (old-entry j below)) ∙ sym e ∙ new-task i ei) (sym (ap (λ x. x.core) (old-entry j below)) ∙ sym f ∙ new-core i ei))
      ]
      | inr ni ↦
          let under : i < used = omega arith in
          elim (cases_eq j used) [
            | inl ej ↦ absurd (clash i under (sym (ap (λ x. x.task) (old-entry i under)) ∙ e ∙ new-task j ej) (sym (ap (λ x. x.core) (old-entry i under)) ∙ f ∙ new-core j ej))
            | inr nj ↦
                let below : j < used = omega arith in
                serving.alone i j under below
                (sym (ap (λ x. x.task) (old-entry i under)) ∙ e ∙ ap (λ x. x.task) (old-entry j below))
                (sym (ap (λ x. x.core) (old-entry i under)) ∙ f ∙ ap (λ x. x.core) (old-entry j below))
          ]
    ];
  }

-- the entry of a pair is taken out, and the last one in use stands in its place
module _ (n m : ℕ) (entries : List Entry) (used here last : ℕ) (task core : ℕ) (serving : Serving n m entries used)
    (found : At entries used task core here) (fits : used ≤ length entries) (is_last : last + 1 ≡ used) where
  abbrev filled : List Entry
  filled = set entries here (entry_at entries last)

  gap : entry_at filled here ≡ entry_at entries last
  gap = get_or-set_same entries here (entry_at entries last) blank (omega (arith, found.0))

  rest : (i : ℕ) → (i ≡ here → ⊥) → entry_at filled i ≡ entry_at entries i
  rest i ne = get_or-set_other entries here i (entry_at entries last) blank ne

  -- where each entry stood before
  abbrev from : ℕ → ℕ
  from i = cond (eqb i here) last i

  pub removed-serving : Serving n m filled last
  removed-serving =
      moved n m entries filled used last from
      (λ i l. grind (arith, nat_tests))
      (λ i j l k e. grind (arith, nat_tests))
      (λ i l. elim (cases_eq i here) [
        | inl e ↦ ap (entry_at filled) e ∙ gap ∙ ap (entry_at entries) (sym (cond-true (eqb i here) last i (eq-eqb i here e)))
        | inr ne ↦ rest i ne ∙ ap (entry_at entries) (sym (cond-false (eqb i here) last i (ne_eqb i here ne)))
      ])
      serving

  -- what the entries say together is less by what that one said
  less : (amount : Entry → ℕ) (t c : ℕ) → sum_to last (part amount filled t c) + part amount entries t c here ≡ sum_to used (part amount entries t c)
  less amount t c =
      let more = sum_more last (part amount entries t c) in
      let all : sum_to (last + 1) (part amount entries t c) ≡ sum_to used (part amount entries t c) = ap (λ x. sum_to x (part amount entries t c)) is_last in
      elim (cases_eq here last) [
        | inl e ↦
            let kept = sum-eq last (part amount filled t c) (part amount entries t c) (λ i l. ap (λ x. cond (is_for x t c) (amount x) 0) (rest i (λ h. omega arith))) in
            let mine : part amount entries t c here ≡ part amount entries t c last = ap (part amount entries t c) e in
            omega (arith, more, all, kept, mine)
        | inr ne ↦
            let mine : part amount filled t c here ≡ part amount entries t c last = ap (λ x. cond (is_for x t c) (amount x) 0) gap in
            let point = sum-point last here (part amount entries t c) (part amount filled t c) (omega (arith, found.0)) (λ i l h. ap (λ x. cond (is_for x t c) (amount x) 0) (rest i h)) in
            omega (arith, more, all, mine, point)
      ]

  pub removed : (amount : Entry → ℕ) → amounts amount filled last ≡ put (amounts amount entries used) task core 0
  removed amount = fun_ext (λ t. fun_ext (λ c.
      let entry : Entry = entry_at entries here in
      let et = is-task entry task core found.1 in
      let ec = is-core entry task core found.1 in
      let fewer = less amount t c in
      elim (cases_Bool (is_for entry t c)) [
        | inl h ↦
            let mine : part amount entries t c here ≡ amount entry = cond-true _ _ _ h in
            let whole : sum_to used (part amount entries t c) ≡ amount entry = at-found amount n m entries used t c here serving (found.0, h) in
            let put_is = put-for (amounts amount entries used) entry task core 0 t c et ec h in
            omega (arith, fewer, mine, whole, put_is)
        | inr h ↦
            let mine : part amount entries t c here ≡ 0 = cond-false _ _ _ h in
            let put_is = put-past (amounts amount entries used) entry task core 0 t c et ec h in
            omega (arith, fewer, mine, put_is)
      ]))
