-- `jump_on_false` wants a boolean, and leaves nothing.
use mathlib.Core.Path.{ap}
use Rattle.check_types.specs.PendingCode.{bared}
use Rattle.check_types.proofs.steps.jump_on_false.Goals as goal

pub returns-in_err-off : goal.returns-in_err-off
unfolding bared
returns-in_err-off c = rw c.from_residual.ensures (ap bared c.in_err-off.ensures)
