-- A task opens the cores that it wants, one by one.
use Rattle.std.proofs.Common.{◌≡◌, ℕ, ◌+◌, ◌<◌, ◌≤◌, true, ◌⊎◌, inl, inr, arith, below_more}
use Rattle.board.specs.Meaning.{Meaning}
use Rattle.search.specs.declared.Search.{Search}
use Rattle.search.specs.Trails.{found_count, task_at, is_opened, Grown}
use Rattle.search.specs.Layers.{OpenersTo}
use Rattle.search.specs.Searches.{SweptTo, Opened, Complete, Spread}
use Rattle.search.proofs.Trails.{grown-same, grown-on}

pub spread_none : (m : Meaning) (s : Search) (x : ℕ) → Complete m s → OpenersTo s x → Spread m s s x 0
spread_none m s x r latest = record { complete = r; grown = grown-same s; swept = λ j l. absurd (omega arith); latest = latest }

-- what was swept stays swept
pub swept-on : (m : Meaning) (s t : Search) (x b : ℕ) → x < found_count s → Grown s t → SweptTo m s x b → SweptTo m t x b
swept-on m s t x b xl g w j l = rw (g.same x xl) (λ less. g.stays j (w j l less))

module _ (m : Meaning) (s t : Search) (x b : ℕ) (xl : x < found_count s) (h : Spread m s t x b) where
  pub spread-open : (u : Search) → Opened m t u x b → Spread m s u x (b + 1)
  spread-open u o = record {
    complete = record { trail = o.trail; covered = o.covered; layered = o.layered; gathered = o.gathered };
    grown = grown-on s t u h.grown o.grown;
    swept = below_more (λ j. m.held (task_at u x) j < m.need (task_at u x) j → is_opened u j ≡ true) b
        (swept-on m t u x b (omega (arith, h.grown.more)) o.grown h.swept) (λ _. o.open_now);
    latest = o.latest;
  }

  pub spread-skip : (is_opened t b ≡ true) ⊎ (m.need (task_at s x) b ≤ m.held (task_at s x) b) → Spread m s t x (b + 1)
  spread-skip why = record {
    complete = h.complete;
    grown = h.grown;
    swept = below_more (λ j. m.held (task_at t x) j < m.need (task_at t x) j → is_opened t j ≡ true) b h.swept
        (rw (h.grown.same x xl) (λ less. elim why [ inl y ↦ y | inr n ↦ absurd (omega (arith, n)) ]));
    latest = h.latest;
  }
