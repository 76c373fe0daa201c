-- `conclude` performs the op and updates the status.
use Rattle.run_gates.specs.GatesCode.{after_event}
use Rattle.run_events.specs.ConcludeCode.{with_status, conclude_op}
use mathlib.Core.Path.{refl, ◌∙◌, ap, ap₂}
use Rattle.run_events.proofs.conclude.conclude.Goals as goal

pub returns : goal.returns
unfolding conclude_op with_status
returns c = ap₂ after_event refl c.update_status.ensures ∙ ap with_status c.perform-t.ensures
