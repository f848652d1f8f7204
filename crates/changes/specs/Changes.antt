-- What a plan's set calls come to. A slot that no longer fits is no reason to refuse: it is taken away.
use Rattle.std.specs.Prelude.{ℕ, cond, ◌&&◌, ◌||◌, ◌==◌, nat_le, nat_lt}
use Rattle.board.specs.declared.fault.Refusal.TheVariants.{NoSuchTaskOrCore, AmountTooLarge, NoPairLeft}
use Rattle.board.specs.Meaning.{Meaning, most_slots, pair_count, with_need, with_capacity}
use Rattle.board.specs.Outcomes.{Outcome, done, refused}

-- the outcome's needs and capacities are those that the plan is to have; its slots are those of before
abbrev pub plan_need : Meaning → ℕ → ℕ → ℕ → Outcome
plan_need m task core amount =
    cond (nat_le m.tasks task || nat_le m.cores core) (refused NoSuchTaskOrCore)
    (cond (nat_lt most_slots amount) (refused AmountTooLarge)
    (cond (nat_lt 0 amount && m.need task core == 0 && nat_le m.greatest_pairs (pair_count m)) (refused NoPairLeft)
    (done (with_need m task core amount))))

abbrev pub plan_capacity : Meaning → ℕ → ℕ → Outcome
plan_capacity m core amount =
    cond (nat_le m.cores core) (refused NoSuchTaskOrCore)
    (cond (nat_lt (m.greatest_capacity core) amount) (refused AmountTooLarge)
    (done (with_capacity m core amount)))
