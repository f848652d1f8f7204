use Rattle.std.proofs.Common.{◌≤◌, ap, arith}
use Rattle.search.specs.Trails.{through_at}
use Rattle.search.specs.declared.Opening.{Opening}
use Rattle.search.proofs.Back.{chain-none, chain_fits, chain_more}
use Rattle.search.proofs.+write_route.Goals as goal

pub returns-then-place-eq0-clause-chain : goal.returns-then-place-eq0-clause-chain
returns-then-place-eq0-clause-chain t c = chain-none _ _ _ c.if-place-eq0.true c.requires.linked

pub bounds-steps-count : goal.bounds-steps-count
bounds-steps-count t c =
    let f : c.write_route-count.result ≤ through_at c.args.search.now c.args.place = chain_fits _ _ _ _ c.requires.linked c.write_route-count.ensures.chain c.args.place c.requires.place (omega arith) (ap (λ (z : Opening). z.opener) c.opening_of-opening.ensures) in
    omega (arith, c.requires.linked.cause c.args.place c.requires.place (omega arith))

pub returns-clause-few : goal.returns-clause-few
returns-clause-few t c =
    let f : c.write_route-count.result ≤ through_at c.args.search.now c.args.place = chain_fits _ _ _ _ c.requires.linked c.write_route-count.ensures.chain c.args.place c.requires.place (omega arith) (ap (λ (z : Opening). z.opener) c.opening_of-opening.ensures) in
    omega (arith, c.requires.linked.cause c.args.place c.requires.place (omega arith))

pub returns-clause-chain : goal.returns-clause-chain
returns-clause-chain t c =
    let f : c.write_route-count.result ≤ through_at c.args.search.now c.args.place = chain_fits _ _ _ _ c.requires.linked c.write_route-count.ensures.chain c.args.place c.requires.place (omega arith) (ap (λ (z : Opening). z.opener) c.opening_of-opening.ensures) in
    let g = c.requires.linked.cause c.args.place c.requires.place (omega arith) in
    chain_more _ _ _ _ _ _ c.requires.place (omega arith) (ap (λ (z : Opening). z.opener) c.opening_of-opening.ensures) c.write_route-count.ensures.chain (omega (arith, g)) c.task_at.ensures
    (ap (λ (z : Opening). z.core) c.opening_of-opening.ensures)
