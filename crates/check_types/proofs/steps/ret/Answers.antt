-- `ret` wants the value that the method returns, and leaves nothing.
use mathlib.Core.Path.{ap, ◌∙◌}
use borrow.Author.Tests.{eq-eqb, ne_eqb}
use Rattle.check_types.specs.PendingCode.{bared}
use Rattle.check_types.specs.RulesCode.{returned_from}
use Rattle.check_types.proofs.steps.ret.Goals as goal

pub returns-then-t-eq0 : goal.returns-then-t-eq0
unfolding returned_from
returns-then-t-eq0 c =
    let return-type = c.return_type-t in
    rw (← return-type.ensures.0, eq-eqb _ 0 c.if-t-eq0.true) c.bare.ensures

pub returns-in_err-off : goal.returns-in_err-off
unfolding returned_from bared
returns-in_err-off c =
    let return-type = c.return_type-t in
    rw (c.from_residual.ensures, ← return-type.ensures.0, ne_eqb _ 0 c.if-t-eq0.false) (ap bared c.in_err-off.ensures)

pub returns : goal.returns
unfolding returned_from
returns c =
    let return-type = c.return_type-t in
    rw (← return-type.ensures.0, ne_eqb _ 0 c.if-t-eq0.false) (c.bare-2.ensures ∙ ap bared c.in_ok-off.ensures)
