-- `known_after_step` looks at the process only after a step, and where anything is known.
use Rattle.run_burst.proofs.Knowing.{knew-nothing, no_step, looked-at}
use Rattle.run_burst.proofs.burst.known_after_step.Goals as goal

pub returns-then-not-known : goal.returns-then-not-known
returns-then-not-known c =
    let args = c.args in
    knew-nothing args.p.now args.work.now args.n args.known args.step c.if-not-known.true

pub returns-then-not-went_on : goal.returns-then-not-went_on
returns-then-not-went_on c =
    let args = c.args in
    no_step args.p.now args.work.now args.n args.known args.step c.if-not-known.false
    c.went_on.ensures c.if-not-went_on.true-raw

pub returns : goal.returns
returns c =
    let args = c.args in
    looked-at args.p.now args.work.now args.n args.known args.step c.if-not-known.false
    c.went_on.ensures c.if-not-went_on.false-raw c.moves_alone.ensures
