-- How the lines of a part grow by one at its end.
use Rattle.std.proofs.Common.{◌≡◌, ℕ, zero, suc, ◌<◌, ◌≤◌, ltb, List, [], ◌∷◌, ◌++◌, length, sym, refl, ap, ◌∙◌, inl, inr, append_assoc, append-nil, arith}
use Rattle.std.proofs.lemmas.List.{get_or_append_left, length_push}
use Rattle.std.proofs.lemmas.Bool.{cases_lt, cond-true, lt-ltb}
use Rattle.fairness.specs.Plans.{Plan}
use Rattle.board.specs.Meaning.{put}
use Rattle.board.proofs.Changes.{put-here, put-other-core, put-other-task}
use Rattle.records.specs.declared.kind.Kind.{Kind}
use Rattle.records.specs.declared.kind.Kind.TheVariants.{Task}
use Rattle.records.specs.Wire.{word}
use Rattle.tasks.specs.Rows.{Row}
use Rattle.tasks.specs.Table.{no_row}
use Rattle.orders.specs.Encoding.{Line, line, each, core_line, task_line, pair_line, task_pairs, pair_lines}

-- only what stands below the bound counts
pub each_same : (n : ℕ) (f g : ℕ → List Line) → ((i : ℕ) → i < n → f i ≡ g i) → each n f ≡ each n g
each_same zero f g same = refl
each_same (suc n) f g same =
    let front = each_same n f g (λ i below. same i (omega arith)) in
    let last = same n (omega arith) in
    λ j. front j ++ last j

pub each_none : (n : ℕ) (f : ℕ → List Line) → ((i : ℕ) → i < n → f i ≡ []) → each n f ≡ []
each_none zero f none = refl
each_none (suc n) f none =
    let front = each_none n f (λ i below. none i (omega arith)) in
    let last = none n (omega arith) in
    λ j. front j ++ last j

-- g is f with one more line for k, and neither has a line after that
pub each-push : (n k : ℕ) (f g : ℕ → List Line) (x : Line) → k < n → ((i : ℕ) → i < k → g i ≡ f i) → g k ≡ f k ++ x ∷ []
    → ((i : ℕ) → k < i → f i ≡ []) → ((i : ℕ) → k < i → g i ≡ []) → each n g ≡ each n f ++ x ∷ []
each-push zero k f g x below front at f-none g-none = absurd (omega arith)
each-push (suc n) k f g x below front at f-none g-none = elim (cases_lt k n) [
  | inl less ↦
      let more = each-push n k f g x less front at f-none g-none in
      (λ j. more j ++ g-none n less j) ∙ append-nil (each n f ++ x ∷ []) ∙ ap (λ l. l ++ x ∷ []) (sym (append-nil (each n f)) ∙ ap (λ l. each n f ++ l) (sym (f-none n less)))
  | inr last ↦
      let here : k ≡ n = omega arith in
      let same = each_same n g f (λ i less. front i (omega arith)) in
      let added : g n ≡ f n ++ x ∷ [] = ap g (sym here) ∙ at ∙ ap (λ i. f i ++ x ∷ []) here in
      (λ j. same j ++ added j) ∙ sym (append_assoc (each n f) (f n) (x ∷ []))
]

-- a pair without an amount has no line
pub pairs-none : (kind : Kind) (n m : ℕ) (plan : Plan) → ((t c : ℕ) → plan t c ≡ 0) → pair_lines kind n m plan ≡ []
pairs-none kind n m plan none = each_none n _ (λ t _. each_none m _ (λ c _. ap (pair_line kind t c) (none t c)))

-- a pair behind all that have amounts gets one: its line is the last
pub pairs-push : (kind : Kind) (n m : ℕ) (plan : Plan) (t c amount : ℕ) → t < n → c < m → 0 < amount
    → ((d : ℕ) → c ≤ d → plan t d ≡ 0) → ((u d : ℕ) → t < u → plan u d ≡ 0)
    → pair_lines kind n m (put plan t c amount) ≡ pair_lines kind n m plan ++ line kind (t ∷ c ∷ word amount) ∷ []
pairs-push kind n m plan t c amount tn cm some row-none none =
    let changed : Plan = put plan t c amount in
    let x : Line = line kind (t ∷ c ∷ word amount) in
    let pair : Plan → ℕ → ℕ → List Line = λ amounts u d. pair_line kind u d (amounts u d) in
    let here : pair changed t c ≡ pair plan t c ++ x ∷ [] =
    ap (pair_line kind t c) (put-here plan t c amount) ∙ cond-true (ltb 0 amount) _ _ (lt-ltb 0 amount some) ∙ ap (λ a. pair_line kind t c a ++ x ∷ []) (sym (row-none c (omega arith))) in
    let row : task_pairs kind m changed t ≡ task_pairs kind m plan t ++ x ∷ [] =
    each-push m c (pair plan t) (pair changed t) x cm
    (λ d less. ap (pair_line kind t d) (put-other-core plan t c amount t d (λ e. omega arith)))
    here
    (λ d more. ap (pair_line kind t d) (row-none d (omega arith)))
    (λ d more. ap (pair_line kind t d) (put-other-core plan t c amount t d (λ e. omega arith) ∙ row-none d (omega arith))) in
    each-push n t (task_pairs kind m plan) (task_pairs kind m changed) x tn
    (λ u less. each_same m (pair changed u) (pair plan u) (λ d _. ap (pair_line kind u d) (put-other-task plan t c amount u d (λ e. omega arith))))
    row
    (λ u more. each_none m _ (λ d _. ap (pair_line kind u d) (none u d more)))
    (λ u more. each_none m _ (λ d _. ap (pair_line kind u d) (put-other-task plan t c amount u d (λ e. omega arith) ∙ none u d more)))

-- the next core's capacity
pub cores-push : (k : ℕ) (old new : ℕ → ℕ) (amount : ℕ) → ((i : ℕ) → i < k → new i ≡ old i) → new k ≡ amount
    → each (suc k) (core_line new) ≡ each k (core_line old) ++ core_line (λ _. amount) k
cores-push k old new amount same at =
    let front = each_same k (core_line new) (core_line old) (λ i below. ap (λ a. core_line (λ _. a) i) (same i below)) in
    λ j. front j ++ core_line (λ _. at j) k

-- the next task's row
pub tasks-push : (rows : List Row) (new : Row) → each (length (rows ++ new ∷ [])) (task_line (rows ++ new ∷ [])) ≡ each (length rows) (task_line rows) ++ task_line (rows ++ new ∷ []) (length rows)
tasks-push rows new =
    let size : length (rows ++ new ∷ []) ≡ suc (length rows) = omega (arith, length_push rows new) in
    let front = each_same (length rows) (task_line (rows ++ new ∷ [])) (task_line rows) (λ i below. ap (λ r. line Task (i ∷ r.weight ∷ r.name) ∷ []) (get_or_append_left rows (new ∷ []) no_row i below)) in
    ap (λ n. each n (task_line (rows ++ new ∷ []))) size ∙ ap (λ l. l ++ task_line (rows ++ new ∷ []) (length rows)) front
