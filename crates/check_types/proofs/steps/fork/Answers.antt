-- `fork` leaves nothing beyond the arguments.
use mathlib.Core.Path.{ap}
use Rattle.check_types.specs.PendingCode.{bared}
use Rattle.check_types.proofs.steps.fork.Goals as goal

pub returns-in_err-pass : goal.returns-in_err-pass
unfolding bared
returns-in_err-pass c = rw c.from_residual.ensures (ap bared c.in_err-pass.ensures)
