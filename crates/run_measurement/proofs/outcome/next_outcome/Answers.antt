-- `next_outcome` goes by whether an outcome is left.
use mathlib.Core.Path.{refl, ap}
use mathlib.Core.Option.{some}
use borrow.Author.Tests.{lt-ltb, le-ltb}
use Rattle.lists.proofs.Tests.{took, passed-by}
use Rattle.run_measurement.specs.Outcome.{outcome_no}
use Rattle.run_measurement.specs.MeasurementCode.{next_in}
use Rattle.run_measurement.proofs.outcome.next_outcome.Goals as goal

pub returns-then-used-outcomes : goal.returns-then-used-outcomes
unfolding next_in outcome_no
returns-then-used-outcomes c = took _ _ _ refl (lt-ltb _ _ c.if-used-outcomes.true) (ap some c.outcome_of.ensures)

pub returns-else-used-outcomes : goal.returns-else-used-outcomes
unfolding next_in outcome_no
returns-else-used-outcomes c = passed-by _ _ _ refl (le-ltb _ _ c.if-used-outcomes.false) refl
