-- A search keeps its order as it goes on: what is found and opened earlier leads on earlier.
use Rattle.std.proofs.Common.{◌≡◌, ℕ, ◌+◌, ◌<◌, ◌≤◌, true, false, ◌⊎◌, sym, ◌∙◌, inl, inr, arith}
use Rattle.std.proofs.lemmas.List.{get_or-set_other}
use Rattle.std.proofs.lemmas.Bool.{cases_eq}
use Rattle.board.specs.Meaning.{Meaning}
use Rattle.search.specs.declared.Search.{Search}
use Rattle.search.specs.Trails.{open_count, found_count, through_at, is_found, core_at, opener_at, is_opened, reached, entered, Trail, Grown}
use Rattle.search.specs.Layers.{OpenersTo, EarlyOpen, FoundBy, Gathered, GatheredTo, Layered}
use Rattle.search.specs.Searches.{SweptTo}
use Rattle.search.proofs.Trails.{found-more, open-more, each-found, each-open, task-new, task-old, by-new, by_old, core-new, core-old, opener-new, opener-old}

-- task k, not found yet, is found by the last opening
module _ (m : Meaning) (s : Search) (k o : ℕ) (t : Trail m s) (kn : k < m.tasks) (n64 : m.tasks ≤ 64) (new : is_found s k ≡ false) (ol : o < open_count s) (last : open_count s ≡ o + 1) where
  pub reached-layered : Layered m s → Layered m (reached s k o)
  reached-layered h = record {
    openers_rise = h.openers_rise;
    openings_rise = each-found s k o (λ y. (x : ℕ) → 0 < x → x < y → through_at (reached s k o) x ≤ through_at (reached s k o) y)
        (λ y l x pos u. rw (by_old m s k o t kn n64 new ol x (omega arith), by_old m s k o t kn n64 new ol y l) (h.openings_rise y l x pos u))
        (λ x pos u. rw (by_old m s k o t kn n64 new ol x u, by-new m s k o t kn n64 new ol) (omega (arith, t.linked.cause x u pos)));
    opening = h.opening;
  }

  still-found : (q i : ℕ) → FoundBy s q i → FoundBy (reached s k o) q i
  still-found q i f = record {
    place = f.place;
    here = omega (arith, f.here, found-more s k o);
    is = task-old m s k o t kn n64 new ol f.place f.here ∙ f.is;
    early = λ pos. rw (by_old m s k o t kn n64 new ol f.place f.here) (f.early pos);
  }

  now-found : FoundBy (reached s k o) o k
  now-found = record {
    place = found_count s;
    here = omega (arith, found-more s k o);
    is = task-new m s k o t kn n64 new ol;
    early = λ pos. rw (by-new m s k o t kn n64 new ol) (omega arith);
  }

  pub reached-gathered : GatheredTo m s o k → GatheredTo m (reached s k o) o (k + 1)
  reached-gathered h q i ql il up has = elim (cases_eq q o) [
    | inl e ↦ elim (cases_eq i k) [
      | inl f ↦ rw (e, f) now-found
      | inr nf ↦ still-found q i (h q i ql il (λ _. omega (arith, up e)) has)
    ]
    | inr ne ↦ still-found q i (h q i ql il (λ e. absurd (ne e)) has)
  ]

-- task k is found already, or holds no slot of the last opening's core
pub skipped-gathered : (m : Meaning) (s : Search) (k o : ℕ) → Trail m s → k < m.tasks → open_count s ≡ o + 1 → (is_found s k ≡ true) ⊎ (m.held k (core_at s o) ≤ 0) → GatheredTo m s o k → GatheredTo m s o (k + 1)
skipped-gathered m s k o t kn last why h q i ql il up has = elim (cases_eq q o) [
  | inl e ↦ elim (cases_eq i k) [
    | inl f ↦ elim why [
      | inl found ↦ rw (e, f) (there found)
      | inr none ↦ absurd (omega (arith, none, rw (e, f) at has))
    ]
    | inr nf ↦ h q i ql il (λ _. omega (arith, up e)) has
  ]
  | inr ne ↦ h q i ql il (λ e. absurd (ne e)) has
]
  where
    there : is_found s k ≡ true → FoundBy s o k
    there found =
        let w = t.placed k kn found in
        record { place = w.0; here = w.1; is = w.2; early = λ pos. omega (arith, t.linked.cause w.0 w.1 pos) }

-- the task at place x opens core j, and none after it has opened any
module _ (m : Meaning) (s : Search) (x j : ℕ) (t : Trail m s) (xl : x < found_count s) (jm : j < m.cores) (m16 : m.cores ≤ 16) (new : is_opened s j ≡ false) (latest : OpenersTo s x) where
  pub entered-latest : OpenersTo (entered s x j) x
  entered-latest = each-open s x j (λ o. opener_at (entered s x j) o ≤ x) (λ o l. rw (opener-old m s x j t xl jm m16 new o l) (latest o l)) (rw (opener-new m s x j t xl jm m16 new) (omega arith))

  pub entered-layered : Layered m s → Layered m (entered s x j)
  entered-layered h = record {
    openers_rise = each-open s x j (λ q. (o : ℕ) → o < q → opener_at (entered s x j) o ≤ opener_at (entered s x j) q)
        (λ q l o u. rw (opener-old m s x j t xl jm m16 new o (omega arith), opener-old m s x j t xl jm m16 new q l) (h.openers_rise q l o u))
        (λ o u. rw (opener-old m s x j t xl jm m16 new o u, opener-new m s x j t xl jm m16 new) (latest o u));
    openings_rise = h.openings_rise;
    opening = λ i il on. elim (cases_eq i j) [
      | inl e ↦ (open_count s, omega (arith, open-more s x j), core-new m s x j t xl jm m16 new ∙ sym e)
      | inr ne ↦
          let w = h.opening i il (sym (get_or-set_other s.opened j i true false ne) ∙ on) in
          (w.0, omega (arith, w.1, open-more s x j), core-old m s x j t xl jm m16 new w.0 w.1 ∙ w.2)
    ];
  }

  pub entered-gathered : Gathered m s → GatheredTo m (entered s x j) (open_count s) 0
  entered-gathered h q i ql il up has = elim (cases_eq q (open_count s)) [
    | inl e ↦ absurd (omega (arith, up e))
    | inr ne ↦
        let l : q < open_count s = omega (arith, open-more s x j) in
        let f = h q i l il (rw (core-old m s x j t xl jm m16 new q l) at has) in
        record { place = f.place; here = f.here; is = f.is; early = f.early }
  ]

-- a core that was opened early stays so
pub early-on : (m : Meaning) (s t : Search) (x : ℕ) → x < found_count s → Grown s t → EarlyOpen m s x → EarlyOpen m t x
early-on m s t x xl g h j jl less =
    let w = h j jl (rw (g.same x xl) at less) in
    record {
      opening = w.opening;
      made = omega (arith, w.made, g.more_opens);
      core = g.same_core w.opening w.made ∙ w.core;
      early = rw (g.same_opener w.opening w.made) w.early;
    }

-- what the task at the last opener's place still needs is opened early
pub early-now : (m : Meaning) (s : Search) (x : ℕ) → Layered m s → OpenersTo s x → SweptTo m s x m.cores → EarlyOpen m s x
early-now m s x h latest swept j jl less =
    let w = h.opening j jl (swept j jl less) in
    record { opening = w.0; made = w.1; core = w.2; early = latest w.0 w.1 }
