-- `is_done` goes by what the step answered.
use Rattle.run_burst.proofs.Steps.{done-step, done-idle}
use Rattle.run_burst.proofs.burst.is_done.Goals as goal

pub returns-then-went_on : goal.returns-then-went_on
returns-then-went_on c =
    let args = c.args in
    done-step args.step args.known c.went_on.ensures c.if-went_on.true

pub returns : goal.returns
returns c =
    let args = c.args in
    done-idle args.step args.known c.went_on.ensures c.if-went_on.false
    c.not_running.ensures
