-- `step_named` steps a process that can be, unless it is known to be idle.
use Rattle.run_burst.proofs.Steps.{named_none, named-idle, named-steps}
use Rattle.run_burst.proofs.burst.step_named.Goals as goal

pub returns-then-n-ge8 : goal.returns-then-n-ge8
returns-then-n-ge8 c =
    let args = c.args in
    named_none args.p.now args.work.now args.n args.known c.if-n-ge8.true

pub returns-then-is_idle : goal.returns-then-is_idle
returns-then-is_idle c =
    let args = c.args in
    named-idle args.p.now args.work.now args.n args.known c.if-n-ge8.false
    c.is_idle.ensures c.if-is_idle.true

pub returns : goal.returns
returns c =
    let args = c.args in
    named-steps args.p.now args.work.now args.n args.known c.if-n-ge8.false
    c.is_idle.ensures c.if-is_idle.false c.step_process.ensures
