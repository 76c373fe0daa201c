-- `gate` takes one qubit or two.
use mathlib.Core.Path.{ap, ◌∙◌}
use borrow.Author.Tests.{le-leb, lt-leb}
use Rattle.check_types.specs.PendingCode.{take_off}
use Rattle.check_types.specs.RulesCode.{gated}
use Rattle.check_types.proofs.steps.gate.Goals as goal

pub returns-then-a-le5 : goal.returns-then-a-le5
unfolding gated
returns-then-a-le5 c = rw (le-leb _ 5 c.if-a-le5.true) c.off.ensures

pub returns-in_err-off : goal.returns-in_err-off
unfolding gated take_off
returns-in_err-off c =
    let if1 = c.if-a-le5 in
    rw (c.from_residual.ensures, lt-leb _ 5 if1.false) (ap (take_off 3) c.in_err-off.ensures)

pub returns : goal.returns
unfolding gated
returns c =
    let if1 = c.if-a-le5 in
    rw (lt-leb _ 5 if1.false) (c.off-3.ensures ∙ ap (take_off 3) c.in_ok-off.ensures)
