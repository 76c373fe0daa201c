-- `named_before` reads the schedule one entry before.
use Rattle.run_burst.proofs.Steps.{before-first, before-later}
use Rattle.run_burst.proofs.burst.named_before.Goals as goal

pub returns-then-k-eq0 : goal.returns-then-k-eq0
returns-then-k-eq0 c = before-first c.args.schedule.now c.args.k c.if-k-eq0.true

pub returns : goal.returns
returns c = before-later c.args.schedule.now c.args.k c.if-k-eq0.false
