-- Needs and slots held are pairs that a board takes in where it can hold them all.
use Rattle.std.proofs.Common.{◌≡◌, ℕ, suc, ◌<◌, ◌≤◌, List, Some, None, Option, refl, ap, ◌∙◌, arith}
use Rattle.std.proofs.lemmas.Bool.Decides.{nat_tests}
use Rattle.fairness.specs.Sums.{sum_to}
use Rattle.fairness.specs.Plans.{Plan}
use Rattle.fairness.proofs.Sums.{sum-le}
use Rattle.board.specs.Meaning.{Meaning, Sound, put, needed, given_at, pair_count, with_need, with_held, planned}
use Rattle.board.specs.Outcomes.{done, answered, after, set_need, set_held}
use Rattle.board.proofs.Bounds.{needed-one, needed-none, held_small}
use Rattle.board.proofs.Changes.{pairs-put, given-put, done-need, done_held}
use Rattle.tasks.specs.Rows.{Row}
use Rattle.records.specs.declared.kind.Kind.TheVariants as kind
use Rattle.sections.specs.declared.state.Section.TheVariants as section
use Rattle.sections.specs.declared.state.Pair.{Pair}
use Rattle.sections.specs.declared.state.Reader.{Reader}
use Rattle.sections.specs.Turns.{pair_told, pair_left}
use Rattle.sections.specs.Lines.{Said, saying, line_in, left_in}
use Rattle.orders.proofs.Amounts.{up_to, put-within, up-to-more}
use Rattle.orders.proofs.PairsTaken.{paired, Pairs, Fit}

-- a board's capacities with some needs, of which nothing is held
abbrev pub needing : Meaning → Plan → Meaning
needing board plan = record {
  tasks = board.tasks;
  cores = board.cores;
  capacity = board.capacity;
  need = plan;
  held = λ _ _. 0;
  greatest_pairs = board.greatest_pairs;
  greatest_capacity = board.greatest_capacity;
}

abbrev pub needs : Meaning → ℕ → Pairs
needs board letter = record { kind = kind.Need; section = section.Needs; say = Said.need; waits = paired section.Needs letter board.tasks board.cores; holds = needing board }

-- the first slots come where a need could still stand
abbrev pub slots_wait : ℕ → ℕ → ℕ → Option Pair → Option Pair → Reader
slots_wait letter tasks cores needed None = paired section.Needs letter tasks cores needed
slots_wait letter tasks cores needed (Some pair) = paired section.Slots letter tasks cores (Some pair)

abbrev pub slots : Meaning → ℕ → Option Pair → Pairs
slots board letter needed = record { kind = kind.Slots; section = section.Slots; say = Said.slots; waits = slots_wait letter board.tasks board.cores needed; holds = planned board }

needed-more : (a b : ℕ) → a ≤ b → needed a ≤ needed b
needed-more a b le = grind (arith, nat_tests)

module _ (board : Meaning) (sound : Sound board) (task core : ℕ) (tn : task < board.tasks) (cm : core < board.cores) where
  need-done : 0 < board.need task core → set_need (needing board (up_to task core board.need)) task core (board.need task core) ≡ done (needing board (up_to task (suc core) board.need))
  need-done some =
      let plan = board.need in
      let amount = plan task core in
      let now = needing board (up_to task core plan) in
      let changed = put (up_to task core plan) task core amount in
      let within : pair_count (with_need now task core amount) ≤ pair_count board =
      sum-le board.tasks (λ t. sum_to board.cores (λ c. needed (changed t c))) (λ t. sum_to board.cores (λ c. needed (plan t c)))
      (λ t _. sum-le board.cores (λ c. needed (changed t c)) (λ c. needed (plan t c)) (λ c _. needed-more (changed t c) (plan t c) (put-within task core plan t c))) in
      let change = pairs-put now task core amount tn cm in
      let one = needed-one amount some in
      done-need now task core amount tn cm (sound.small task core) (omega arith) (λ _ new. omega (arith, within, change, one, needed-none (up_to task core plan task core) new, sound.few_pairs))
      ∙ ap (λ p. done (needing board p)) (up-to-more task core plan)

  held-done : set_held (planned board (up_to task core board.held)) task core (board.held task core) ≡ done (planned board (up_to task (suc core) board.held))
  held-done =
      let plan = board.held in
      let amount = plan task core in
      let now = planned board (up_to task core plan) in
      let changed = put (up_to task core plan) task core amount in
      let within : given_at (with_held now task core amount) core ≤ given_at board core =
      sum-le board.tasks (λ t. changed t core) (λ t. plan t core) (λ t _. put-within task core plan t core) in
      let change = given-put now task core amount tn in
      done_held now task core amount tn cm (sound.covered task core) (omega (arith, within, change, sound.fits core cm))
      ∙ ap (λ p. done (planned board p)) (up-to-more task core plan)

module _ (board : Meaning) (letter : ℕ) (rows : List Row) (sound : Sound board) where
  pub needs-fit : Fit letter board.tasks board.cores rows board.need (needs board letter)
  needs-fit = record {
    told = λ last seen body. refl;
    left = λ last seen body. refl;
    waiting = λ pair. refl;
    small = sound.small;
    beyond = sound.beyond_cores;
    accepts = λ task core tn cm some. ap answered (need-done board sound task core tn cm some);
    fills = λ task core tn cm some. ap (after (needing board (up_to task core board.need))) (need-done board sound task core tn cm some);
    keeps = λ line. refl;
  }

  slots-told : (before last : Option Pair) (seen : ℕ) (body : List ℕ)
      → line_in (slots_wait letter board.tasks board.cores before last).section kind.Slots (slots_wait letter board.tasks board.cores before last) seen body
      ≡ saying Said.slots (pair_told (paired section.Slots letter board.tasks board.cores last) body)
  slots-told before None seen body = refl
  slots-told before (Some pair) seen body = refl

  slots-left : (before last : Option Pair) (seen : ℕ) (body : List ℕ)
      → left_in (slots_wait letter board.tasks board.cores before last).section kind.Slots (slots_wait letter board.tasks board.cores before last) seen body
      ≡ pair_left (paired section.Slots letter board.tasks board.cores last) body
  slots-left before None seen body = refl
  slots-left before (Some pair) seen body = refl

  pub slots-fit : (before : Option Pair) → Fit letter board.tasks board.cores rows board.held (slots board letter before)
  slots-fit before = record {
    told = slots-told before;
    left = slots-left before;
    waiting = λ pair. refl;
    small = held_small board sound;
    beyond = λ task core off. omega (arith, sound.covered task core, sound.beyond_cores task core off);
    accepts = λ task core tn cm some. ap answered (held-done board sound task core tn cm);
    fills = λ task core tn cm some. ap (after (planned board (up_to task core board.held))) (held-done board sound task core tn cm);
    keeps = λ line. refl;
  }
