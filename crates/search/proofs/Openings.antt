-- A core is opened: its holders are found one by one.
use Rattle.std.proofs.Common.{◌≡◌, ℕ, ◌+◌, ◌<◌, ◌≤◌, true, false, ◌⊎◌, sym, ◌∙◌, subst, inl, inr, arith}
use Rattle.std.proofs.lemmas.List.{get_or-set_other}
use Rattle.std.proofs.lemmas.Bool.{cases_eq}
use Rattle.board.specs.Meaning.{Meaning, Sound}
use Rattle.search.specs.declared.Search.{Search}
use Rattle.search.specs.Trails.{open_count, is_found, core_at, is_opened, reached, entered, Trail, Grown}
use Rattle.search.specs.Layers.{OpenersTo, GatheredTo, Layered}
use Rattle.search.specs.Searches.{CoveredTo, MayOpen, Opened}
use Rattle.search.proofs.Trails.{open-more, reached-trail, reached-grown, found-new, found-old, entered-trail, entered-grown, opened-new, core-new, grown-same, grown-on}
use Rattle.search.proofs.Layers.{reached-layered, reached-gathered, skipped-gathered, entered-latest, entered-layered, entered-gathered}

-- t is s, with core j opened by opening o, and its holders below k found
pub record Holders (m : Meaning) (s t : Search) (j o k : ℕ) : Type 0 where
  pub trail : Trail m t
  pub covered : CoveredTo m t j k
  pub grown : Grown s t
  pub open_now : is_opened t j ≡ true
  pub last : o < open_count t
  pub here : core_at t o ≡ j
  pub newest : open_count t ≡ o + 1
  pub layered : Layered m t
  pub gathered : GatheredTo m t o k
  pub latest : (x : ℕ) → OpenersTo s x → OpenersTo t x

pub holders-none : (m : Meaning) (s : Search) (x j o : ℕ) → Sound m → MayOpen m s x j → o ≡ open_count s → Holders m (entered s x j) (entered s x j) j o 0
holders-none m s x j o so r e =
    let t = r.trail in
    rw e (record {
      trail = entered-trail m s x j t r.here r.real so.few_cores r.shut r.wants;
      covered = λ i k il kl on up has. elim (cases_eq i j) [
        | inl e ↦ absurd (omega (arith, up e))
        | inr ne ↦ r.covered i k il kl (sym (get_or-set_other s.opened j i true false ne) ∙ on) has
      ];
      grown = grown-same (entered s x j);
      open_now = opened-new m s x j t r.here r.real so.few_cores r.shut;
      last = omega (arith, open-more s x j);
      here = core-new m s x j t r.here r.real so.few_cores r.shut;
      newest = open-more s x j;
      layered = entered-layered m s x j t r.here r.real so.few_cores r.shut r.latest r.layered;
      gathered = entered-gathered m s x j t r.here r.real so.few_cores r.shut r.latest r.gathered;
      latest = λ _ all. all;
    })

module _ (m : Meaning) (s t : Search) (j o k : ℕ) (so : Sound m) (h : Holders m s t j o k) (kn : k < m.tasks) where
  pub holders-reach : is_found t k ≡ false → 0 < m.held k j → Holders m s (reached t k o) j o (k + 1)
  holders-reach new has = record {
    trail = reached-trail m t k o h.trail kn so.few_tasks new h.last (rw h.here has);
    covered = λ i q il ql on up some. elim (cases_eq q k) [
      | inl e ↦ rw e (found-new m t k o h.trail kn so.few_tasks new h.last)
      | inr ne ↦ found-old m t k o h.trail kn so.few_tasks new h.last q (h.covered i q il ql on (λ e. omega (arith, up e)) some)
    ];
    grown = grown-on s t (reached t k o) h.grown (reached-grown m t k o h.trail kn so.few_tasks new h.last);
    open_now = h.open_now;
    last = h.last;
    here = h.here;
    newest = h.newest;
    layered = reached-layered m t k o h.trail kn so.few_tasks new h.last h.newest h.layered;
    gathered = reached-gathered m t k o h.trail kn so.few_tasks new h.last h.newest h.gathered;
    latest = h.latest;
  }

  pub holders-skip : (is_found t k ≡ true) ⊎ (m.held k j ≤ 0) → Holders m s t j o (k + 1)
  holders-skip why = record {
    trail = h.trail;
    covered = λ i q il ql on up some. elim (cases_eq q k) [
      | inl e ↦ elim why [
        | inl y ↦ rw e y
        | inr n ↦ elim (cases_eq i j) [
          | inl f ↦ absurd (omega (arith, n, rw (e, f) at some))
          | inr nf ↦ h.covered i q il ql on (λ f. absurd (nf f)) some
        ]
      ]
      | inr ne ↦ h.covered i q il ql on (λ f. omega (arith, up f)) some
    ];
    grown = h.grown;
    open_now = h.open_now;
    last = h.last;
    here = h.here;
    newest = h.newest;
    layered = h.layered;
    gathered = skipped-gathered m t k o h.trail kn h.newest (rw h.here why) h.gathered;
    latest = h.latest;
  }

pub holders-all : (m : Meaning) (r s t : Search) (x j o k : ℕ) → Sound m → MayOpen m r x j → s ≡ entered r x j → Holders m s t j o k → m.tasks ≤ k → Opened m r t x j
holders-all m r s t x j o k so w e h all = record {
  trail = h.trail;
  covered = λ i q il ql on some. h.covered i q il ql on (λ f. omega arith) some;
  grown = grown-on r (entered r x j) t (entered-grown m r x j w.trail w.here w.real so.few_cores w.shut) (rw e at h.grown);
  open_now = h.open_now;
  layered = h.layered;
  gathered = λ q i ql il some. h.gathered q i ql il (λ f. omega arith) some;
  latest = (let P : Search → Type 0 = λ z. OpenersTo z x in h.latest x (subst P (sym e) (entered-latest m r x j w.trail w.here w.real so.few_cores w.shut w.latest)));
}
