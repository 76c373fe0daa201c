-- `end` makes an end of a channel.
use Rattle.check_types.specs.RulesCode.{ended}
use Rattle.check_types.proofs.Rules.{between}
use native.Mathlib.Omega.{arith}
use Rattle.check_types.proofs.steps.end.Goals as goal

pub one-requires : goal.one-requires
one-requires c =
    let range = between 17 c.top-t.result 19 c.if-t.true in
    (omega arith, omega arith)

pub returns-then-t : goal.returns-then-t
unfolding ended
returns-then-t c = rw (← c.top-t.ensures.0, c.if-t.true) c.one.ensures

pub returns : goal.returns
unfolding ended
returns c = rw (← c.top-t.ensures.0, c.if-t.false)
