-- `recv` makes of an end what it carries.
use Rattle.check_types.specs.RulesCode.{received}
use Rattle.check_types.proofs.Rules.{between}
use native.Mathlib.Omega.{arith}
use Rattle.check_types.proofs.steps.recv.Goals as goal

pub overflow_sub-t : goal.overflow_sub-t
overflow_sub-t c = omega (arith, between 33 c.top-t.result 35 c.if-t.true)

pub one-requires : goal.one-requires
one-requires c =
    let range = between 33 c.top-t.result 35 c.if-t.true in
    (omega arith, omega arith)

pub returns-then-t : goal.returns-then-t
unfolding received
returns-then-t c = rw (← c.top-t.ensures.0, c.if-t.true) c.one.ensures

pub returns : goal.returns
unfolding received
returns c = rw (← c.top-t.ensures.0, c.if-t.false)
