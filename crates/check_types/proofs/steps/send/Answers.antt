-- `send` wants the end that carries the value, and leaves nothing.
use Prim.Native.Nat.{◌+◌}
use mathlib.Core.Path.{ap, ◌∙◌}
use native.Mathlib.Omega.{arith}
use Rattle.check_types.specs.PendingCode.{take_off, bared}
use Rattle.check_types.specs.RulesCode.{sent}
use Rattle.check_types.proofs.Rules.{between}
use Rattle.check_types.proofs.steps.send.Goals as goal

pub off-requires : goal.off-requires
off-requires c = omega (arith, between 1 c.top-t.result 3 c.if-t.true)

pub returns-in_err-off : goal.returns-in_err-off
unfolding sent take_off bared
returns-in_err-off c =
    rw (c.from_residual.ensures, ← c.top-t.ensures.0, c.if-t.true)
    (ap (λ o. bared (take_off (c.top-t.result + 32) o)) c.in_err-off.ensures)

pub returns-in_err-off-2 : goal.returns-in_err-off-2
unfolding sent bared
returns-in_err-off-2 c =
    rw (c.from_residual-in_err-off-2.ensures, ← c.top-t.ensures.0, c.if-t.true)
    (ap bared (c.in_err-off-2.ensures ∙ ap (take_off _) c.in_ok-off.ensures))

pub returns-then-t : goal.returns-then-t
unfolding sent
returns-then-t c =
    rw (← c.top-t.ensures.0, c.if-t.true)
    (c.bare.ensures ∙ ap bared (c.in_ok-off-2.ensures ∙ ap (take_off _) c.in_ok-off.ensures))

pub returns : goal.returns
unfolding sent
returns c = rw (← c.top-t.ensures.0, c.if-t.false)
