-- A trail goes on: a task is found, a core is opened.
use Rattle.std.proofs.Common.{◌≡◌, ℕ, ◌+◌, ◌<◌, ◌≤◌, Bool, true, false, cond, List, [], length, get_or, set, sym, refl, ap, ◌∙◌, subst, inl, inr, arith, length-set, below_more}
use Rattle.std.proofs.Math.Seq.{get_or-append_seam}
use Rattle.std.proofs.Math.ListN.{get_or-append}
use Rattle.std.proofs.lemmas.List.{length_push, get_or-set_same, get_or-set_other}
use Rattle.std.proofs.lemmas.Bool.{cases_eq, both_ways}
use Rattle.fairness.specs.Sums.{sum_to}
use Rattle.fairness.proofs.Sums.{sum-point, count-le}
use Rattle.board.specs.Meaning.{Meaning}
use Rattle.search.specs.declared.Search.{Search}
use Rattle.search.specs.declared.Seen.{Seen}
use Rattle.search.specs.declared.Opening.{Opening}
use Rattle.search.specs.Trails.{no_seen, no_opening, found_count, open_count, task_at, through_at, is_found, core_at, opener_at, is_opened, reached, entered, Trail, Grown}

-- one flag more
pub flag-more : (n k : ℕ) (l : List Bool) → k < n → k < length l → get_or l k false ≡ false
    → sum_to n (λ i. cond (get_or (set l k true) i false) 1 0) ≡ sum_to n (λ i. cond (get_or l i false) 1 0) + 1
flag-more n k l kn kl off =
    let f : ℕ → ℕ = λ i. cond (get_or l i false) 1 0 in
    let g : ℕ → ℕ = λ i. cond (get_or (set l k true) i false) 1 0 in
    let fk : f k ≡ 0 = ap (λ (b : Bool). cond b 1 0) off in
    let gk : g k ≡ 1 = ap (λ (b : Bool). cond b 1 0) (get_or-set_same l k true false kl) in
    omega (arith, sum-point n k f g kn (λ i _ ne. ap (λ (b : Bool). cond b 1 0) (get_or-set_other l k i true false ne)), fk, gk)

-- while one is not set, there is room
pub flag-room : (n k : ℕ) (l : List Bool) → k < n → k < length l → get_or l k false ≡ false → sum_to n (λ i. cond (get_or l i false) 1 0) < n
flag-room n k l kn kl off = omega (arith, flag-more n k l kn kl off, count-le n (λ i. get_or (set l k true) i false))

-- a flag that is set stays set
pub flag-stays : (l : List Bool) (k i : ℕ) → k < length l → get_or l i false ≡ true → get_or (set l k true) i false ≡ true
flag-stays l k i kl on = elim (cases_eq i k) [
  | inl e ↦ rw e (get_or-set_same l k true false kl)
  | inr ne ↦ get_or-set_other l k i true false ne ∙ on
]

-- the lists grow by one
pub found-more : (s : Search) (k o : ℕ) → found_count (reached s k o) ≡ found_count s + 1
found-more s k o = length_push s.seen.items _

pub open-more : (s : Search) (x j : ℕ) → open_count (entered s x j) ≡ open_count s + 1
open-more s x j = length_push s.openings.items _

-- so what holds of each found before, and of the last, holds of each
pub each-found : (s : Search) (k o : ℕ) (P : ℕ → Type 0) → ((x : ℕ) → x < found_count s → P x) → P (found_count s) → (x : ℕ) → x < found_count (reached s k o) → P x
each-found s k o P before last x l = below_more P (found_count s) before last x (omega (arith, found-more s k o))

pub each-open : (s : Search) (y j : ℕ) (P : ℕ → Type 0) → ((o : ℕ) → o < open_count s → P o) → P (open_count s) → (o : ℕ) → o < open_count (entered s y j) → P o
each-open s y j P before last o l = below_more P (open_count s) before last o (omega (arith, open-more s y j))

-- task k, not found yet, is found by opening o
module _ (m : Meaning) (s : Search) (k o : ℕ) (t : Trail m s) (kn : k < m.tasks) (n64 : m.tasks ≤ 64) (new : is_found s k ≡ false) (ol : o < open_count s) where
  pub reach-room : found_count s < m.tasks
  reach-room = omega (arith, flag-room m.tasks k s.found kn (omega (arith, t.linked.sized.found)) new, t.number)

  pub task-new : task_at (reached s k o) (found_count s) ≡ k
  task-new = ap (λ (z : Seen). z.task) (get_or-append_seam s.seen.items _ [] no_seen)

  pub task-old : (x : ℕ) → x < found_count s → task_at (reached s k o) x ≡ task_at s x
  task-old x l = ap (λ (z : Seen). z.task) (get_or-append s.seen.items _ no_seen x l)

  pub by-new : through_at (reached s k o) (found_count s) ≡ o
  by-new = ap (λ (z : Seen). z.opening) (get_or-append_seam s.seen.items _ [] no_seen)

  pub by_old : (x : ℕ) → x < found_count s → through_at (reached s k o) x ≡ through_at s x
  by_old x l = ap (λ (z : Seen). z.opening) (get_or-append s.seen.items _ no_seen x l)

  pub found-new : is_found (reached s k o) k ≡ true
  found-new = get_or-set_same s.found k true false (omega (arith, t.linked.sized.found))

  pub found-old : (i : ℕ) → is_found s i ≡ true → is_found (reached s k o) i ≡ true
  found-old i h = flag-stays s.found k i (omega (arith, t.linked.sized.found)) h

  pub reached-trail : 0 < m.held k (core_at s o) → Trail m (reached s k o)
  reached-trail has = record {
    linked = record {
      sized = record { found = simp length-set t.linked.sized.found; opened = t.linked.sized.opened };
      some = omega (arith, found-more s k o);
      room = omega (arith, reach-room, found-more s k o);
      limit = t.linked.limit;
      apart = each-found s k o (λ y. (x : ℕ) → x < y → task_at (reached s k o) x ≡ task_at (reached s k o) y → ⊥)
          (λ y h x l e. t.linked.apart y h x l (sym (task-old x (omega arith)) ∙ (e ∙ task-old y h)))
          (λ x l e. both_ways (is_found s k) new (let P : ℕ → Type 0 = λ i. is_found s i ≡ true in subst P (sym (task-old x l) ∙ (e ∙ task-new)) (t.known x l)));
      cause = each-found s k o (λ x. 0 < x → through_at (reached s k o) x < open_count s) (λ x l h. rw (by_old x l) (t.linked.cause x l h)) (λ h. rw by-new ol);
      earlier = each-found s k o (λ x. 0 < x → opener_at s (through_at (reached s k o) x) < x) (λ x l h. rw (by_old x l) (t.linked.earlier x l h)) (λ h. rw by-new (t.linked.placing o ol));
      placing = λ p l. omega (arith, found-more s k o, t.linked.placing p l);
      falls = λ p l h. rw (by_old (opener_at s p) (t.linked.placing p l)) (t.linked.falls p l h);
      once = t.linked.once;
    };
    number = omega (arith, t.number, found-more s k o, flag-more m.tasks k s.found kn (omega (arith, t.linked.sized.found)) new);
    inside = each-found s k o (λ x. task_at (reached s k o) x < m.tasks) (λ x l. rw (task-old x l) (t.inside x l)) (rw task-new kn);
    known = each-found s k o (λ x. is_found (reached s k o) (task_at (reached s k o) x) ≡ true) (λ x l. rw (task-old x l) (found-old (task_at s x) (t.known x l))) (rw task-new found-new);
    placed = λ i l h. elim (cases_eq i k) [
      | inl e ↦ (found_count s, omega (arith, found-more s k o), task-new ∙ sym e)
      | inr ne ↦
          let w = t.placed i l (sym (get_or-set_other s.found k i true false ne) ∙ h) in
          (w.0, omega (arith, w.1, found-more s k o), task-old w.0 w.1 ∙ w.2)
    ];
    holds = each-found s k o (λ x. 0 < x → 0 < m.held (task_at (reached s k o) x) (core_at s (through_at (reached s k o) x)))
        (λ x l h. rw (task-old x l, by_old x l) (t.holds x l h)) (λ h. rw (task-new, by-new) has);
    few = t.few;
    real = t.real;
    shown = t.shown;
    wants = λ p l. rw (task-old (opener_at s p) (t.linked.placing p l)) (t.wants p l);
  }

  pub reached-grown : Grown s (reached s k o)
  reached-grown = record {
    more = omega (arith, found-more s k o);
    same = task-old;
    stays = λ j h. h;
    more_opens = omega arith;
    same_core = λ o l. refl;
    same_opener = λ o l. refl;
  }

-- the task at place x opens core j
module _ (m : Meaning) (s : Search) (x j : ℕ) (t : Trail m s) (xl : x < found_count s) (jm : j < m.cores) (m16 : m.cores ≤ 16) (new : is_opened s j ≡ false) where
  pub enter-room : open_count s < m.cores
  enter-room = omega (arith, flag-room m.cores j s.opened jm (omega (arith, t.linked.sized.opened)) new, t.few)

  pub core-new : core_at (entered s x j) (open_count s) ≡ j
  core-new = ap (λ (z : Opening). z.core) (get_or-append_seam s.openings.items _ [] no_opening)

  pub core-old : (o : ℕ) → o < open_count s → core_at (entered s x j) o ≡ core_at s o
  core-old o l = ap (λ (z : Opening). z.core) (get_or-append s.openings.items _ no_opening o l)

  pub opener-new : opener_at (entered s x j) (open_count s) ≡ x
  opener-new = ap (λ (z : Opening). z.opener) (get_or-append_seam s.openings.items _ [] no_opening)

  pub opener-old : (o : ℕ) → o < open_count s → opener_at (entered s x j) o ≡ opener_at s o
  opener-old o l = ap (λ (z : Opening). z.opener) (get_or-append s.openings.items _ no_opening o l)

  pub opened-new : is_opened (entered s x j) j ≡ true
  opened-new = get_or-set_same s.opened j true false (omega (arith, t.linked.sized.opened))

  pub opened-old : (i : ℕ) → is_opened s i ≡ true → is_opened (entered s x j) i ≡ true
  opened-old i h = flag-stays s.opened j i (omega (arith, t.linked.sized.opened)) h

  pub entered-trail : m.held (task_at s x) j < m.need (task_at s x) j → Trail m (entered s x j)
  entered-trail wants = record {
    linked = record {
      sized = record { found = t.linked.sized.found; opened = simp length-set t.linked.sized.opened };
      some = t.linked.some;
      room = t.linked.room;
      limit = omega (arith, enter-room, open-more s x j);
      apart = t.linked.apart;
      cause = λ y l h. omega (arith, open-more s x j, t.linked.cause y l h);
      earlier = λ y l h. rw (opener-old (through_at s y) (t.linked.cause y l h)) (t.linked.earlier y l h);
      placing = each-open s x j (λ o. opener_at (entered s x j) o < found_count s) (λ o l. rw (opener-old o l) (t.linked.placing o l)) (rw opener-new xl);
      falls = each-open s x j (λ o. 0 < opener_at (entered s x j) o → through_at s (opener_at (entered s x j) o) < o)
          (λ o l. rw (opener-old o l) (t.linked.falls o l)) (rw opener-new (λ h. t.linked.cause x xl h));
      once = each-open s x j (λ o. (q : ℕ) → q < o → core_at (entered s x j) q ≡ core_at (entered s x j) o → ⊥)
          (λ o l q u e. t.linked.once o l q u (sym (core-old q (omega arith)) ∙ (e ∙ core-old o l)))
          (λ q u e. both_ways (is_opened s j) new (let P : ℕ → Type 0 = λ i. is_opened s i ≡ true in subst P (sym (core-old q u) ∙ (e ∙ core-new)) (t.shown q u)));
    };
    number = t.number;
    inside = t.inside;
    known = t.known;
    placed = t.placed;
    holds = λ y l h. rw (core-old (through_at s y) (t.linked.cause y l h)) (t.holds y l h);
    few = omega (arith, t.few, open-more s x j, flag-more m.cores j s.opened jm (omega (arith, t.linked.sized.opened)) new);
    real = each-open s x j (λ o. core_at (entered s x j) o < m.cores) (λ o l. rw (core-old o l) (t.real o l)) (rw core-new jm);
    shown = each-open s x j (λ o. is_opened (entered s x j) (core_at (entered s x j) o) ≡ true) (λ o l. rw (core-old o l) (opened-old (core_at s o) (t.shown o l))) (rw core-new opened-new);
    wants = each-open s x j (λ o. m.held (task_at s (opener_at (entered s x j) o)) (core_at (entered s x j) o) < m.need (task_at s (opener_at (entered s x j) o)) (core_at (entered s x j) o))
        (λ o l. rw (opener-old o l, core-old o l) (t.wants o l)) (rw (opener-new, core-new) wants);
  }

  pub entered-grown : Grown s (entered s x j)
  entered-grown = record {
    more = omega arith;
    same = λ y l. refl;
    stays = opened-old;
    more_opens = omega (arith, open-more s x j);
    same_core = core-old;
    same_opener = opener-old;
  }

pub grown-same : (s : Search) → Grown s s
grown-same s = record {
  more = omega arith;
  same = λ x l. refl;
  stays = λ j h. h;
  more_opens = omega arith;
  same_core = λ o l. refl;
  same_opener = λ o l. refl;
}

pub grown-on : (s t u : Search) → Grown s t → Grown t u → Grown s u
grown-on s t u g h = record {
  more = omega (arith, g.more, h.more);
  same = λ x l. h.same x (omega (arith, g.more)) ∙ g.same x l;
  stays = λ j o. h.stays j (g.stays j o);
  more_opens = omega (arith, g.more_opens, h.more_opens);
  same_core = λ o l. h.same_core o (omega (arith, g.more_opens)) ∙ g.same_core o l;
  same_opener = λ o l. h.same_opener o (omega (arith, g.more_opens)) ∙ g.same_opener o l;
}
