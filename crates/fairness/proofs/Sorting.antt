-- Sorted lists and counts: the place k holds at most v just where more than k numbers are at most v.
use Rattle.std.proofs.Common.{◌≡◌, ℕ, zero, suc, ◌+◌, ◌<◌, ◌≤◌, cond, leb, List, [], ◌∷◌, length, get_or, refl, ap, ◌∙◌, inl, inr, arith}
use Rattle.std.proofs.lemmas.Bool.{cases_lt, leb-true, leb-false, cond_both}
use Rattle.fairness.specs.Lexicographic.{insert, sorted}
use Rattle.fairness.proofs.Numbers.{up_to}

-- how many numbers of a list are at most v
abbrev pub list_count : List ℕ → ℕ → ℕ
list_count [] v = 0
list_count (x ∷ xs) v = cond (leb x v) 1 0 + list_count xs v

-- no number of the list is below x
abbrev pub AtLeast : ℕ → List ℕ → Type 0
AtLeast x [] = Unit {0}
AtLeast x (y ∷ ys) = (x ≤ y) × AtLeast x ys

abbrev pub Sorted : List ℕ → Type 0
Sorted [] = Unit {0}
Sorted (x ∷ xs) = AtLeast x xs × Sorted xs

at-least-lower : (x y : ℕ) (zs : List ℕ) → x ≤ y → AtLeast y zs → AtLeast x zs
at-least-lower x y [] l h = tt
at-least-lower x y (z ∷ zs) l h = (omega (arith, h.0), at-least-lower x y zs l h.1)

at-least-insert : (x z : ℕ) (ys : List ℕ) → x ≤ z → AtLeast x ys → AtLeast x (insert z ys)
at-least-insert x z [] l h = (l, tt)
at-least-insert x z (y ∷ ys) l h =
    cond_both (leb z y) (z ∷ y ∷ ys) (y ∷ insert z ys) (AtLeast x) (λ e. (l, h)) (λ e. (h.0, at-least-insert x z ys l h.1))

sorted_insert : (x : ℕ) (ys : List ℕ) → Sorted ys → Sorted (insert x ys)
sorted_insert x [] h = (tt, tt)
sorted_insert x (y ∷ ys) h =
    cond_both (leb x y) (x ∷ y ∷ ys) (y ∷ insert x ys) Sorted
    (λ e. ((leb-true x y e, at-least-lower x y ys (leb-true x y e) h.0), h))
    (λ e. (at-least-insert y x ys (omega (arith, leb-false x y e)) h.0, sorted_insert x ys h.1))

counted-insert : (x : ℕ) (ys : List ℕ) (v : ℕ) → list_count (insert x ys) v ≡ cond (leb x v) 1 0 + list_count ys v
counted-insert x [] v = refl
counted-insert x (y ∷ ys) v =
    cond_both (leb x y) (x ∷ y ∷ ys) (y ∷ insert x ys) (λ l. list_count l v ≡ cond (leb x v) 1 0 + list_count (y ∷ ys) v)
    (λ e. refl) (λ e. omega (arith, counted-insert x ys v))

length-insert : (x : ℕ) (ys : List ℕ) → length (insert x ys) ≡ suc (length ys)
length-insert x [] = refl
length-insert x (y ∷ ys) =
    cond_both (leb x y) (x ∷ y ∷ ys) (y ∷ insert x ys) (λ l. length l ≡ suc (suc (length ys))) (λ e. refl) (λ e. ap suc (length-insert x ys))

sorted-sorted : (n : ℕ) (t : ℕ → ℕ) → Sorted (sorted n t)
sorted-sorted zero t = tt
sorted-sorted (suc n) t = sorted_insert (t n) (sorted n t) (sorted-sorted n t)

pub sorted-length : (n : ℕ) (t : ℕ → ℕ) → length (sorted n t) ≡ n
sorted-length zero t = refl
sorted-length (suc n) t = length-insert (t n) (sorted n t) ∙ ap suc (sorted-length n t)

sorted-counted : (n : ℕ) (t : ℕ → ℕ) (v : ℕ) → list_count (sorted n t) v ≡ up_to n t v
sorted-counted zero t v = refl
sorted-counted (suc n) t v = omega (arith, counted-insert (t n) (sorted n t) v, sorted-counted n t v)

none-counted : (v x : ℕ) (ys : List ℕ) → v < x → AtLeast x ys → list_count ys v ≡ 0
none-counted v x [] l h = refl
none-counted v x (y ∷ ys) l h = grind (arith, h.0, none-counted v x ys l h.1)

place-from : (xs : List ℕ) → Sorted xs → (k v : ℕ) → k < length xs → get_or xs k 0 ≤ v → k < list_count xs v
place-from [] h k v l le = absurd (omega arith)
place-from (x ∷ xs) h zero v l le = grind arith
place-from (x ∷ xs) h (suc k) v l le =
    let later : k < list_count xs v = place-from xs h.1 k v (omega arith) le in
    elim (cases_lt v x) [ inl u ↦ absurd (omega (arith, none-counted v x xs u h.0)) | inr u ↦ grind arith ]

place-to : (xs : List ℕ) → Sorted xs → (k v : ℕ) → k < list_count xs v → get_or xs k 0 ≤ v
place-to [] h k v l = absurd (omega arith)
place-to (x ∷ xs) h zero v l = elim (cases_lt v x) [ inl u ↦ absurd (grind (arith, none-counted v x xs u h.0)) | inr u ↦ u ]
place-to (x ∷ xs) h (suc k) v l = elim (cases_lt v x) [
  | inl u ↦ absurd (grind (arith, none-counted v x xs u h.0))
  | inr u ↦ place-to xs h.1 k v (grind arith)
]

pub sorted-from : (n : ℕ) (t : ℕ → ℕ) (k v : ℕ) → k < n → get_or (sorted n t) k 0 ≤ v → k < up_to n t v
sorted-from n t k v l le = omega (arith, sorted-counted n t v, place-from (sorted n t) (sorted-sorted n t) k v (omega (arith, sorted-length n t)) le)

pub sorted-to : (n : ℕ) (t : ℕ → ℕ) (k v : ℕ) → k < up_to n t v → get_or (sorted n t) k 0 ≤ v
sorted-to n t k v l = place-to (sorted n t) (sorted-sorted n t) k v (omega (arith, sorted-counted n t v))
