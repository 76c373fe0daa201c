-- `call` puts the returned value on, if there is one.
use mathlib.Core.Path.{ap, ◌∙◌}
use borrow.Author.Tests.{eq-eqb, ne_eqb}
use Rattle.check_types.specs.PendingCode.{put_on}
use Rattle.check_types.specs.RulesCode.{called}
use Rattle.check_types.proofs.Rules.{call-missing}
use Rattle.check_types.proofs.steps.call.Goals as goal

pub returns-in_err-rest : goal.returns-in_err-rest
unfolding called
returns-in_err-rest c =
    rw c.from_residual.ensures (call-missing _ _ c.in_err-rest.ensures)

pub returns-then-t-eq0 : goal.returns-then-t-eq0
unfolding called
returns-then-t-eq0 c =
    rw (← c.return_type-t.ensures.0, eq-eqb _ 0 c.if-t-eq0.true) c.in_ok-rest.ensures

pub returns : goal.returns
unfolding called
returns c =
    rw (← c.return_type-t.ensures.0, ne_eqb _ 0 c.if-t-eq0.false) (c.on.ensures ∙ ap (put_on _) c.in_ok-rest.ensures)
