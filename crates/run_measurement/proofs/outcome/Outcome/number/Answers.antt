-- `number` is 0, 1 or 2, case by case.
use mathlib.Core.Path.{sym, ap}
use Rattle.run_measurement.specs.Outcome.{outcome_number}
use Rattle.run_measurement.proofs.outcome.Outcome.number.Goals as goal

pub returns-in-Zero : goal.returns-in-Zero
unfolding outcome_number
returns-in-Zero c = sym (ap outcome_number c.in-Zero.is)

pub returns-in-One : goal.returns-in-One
unfolding outcome_number
returns-in-One c = sym (ap outcome_number c.in-One.is)

pub returns-in-NoClick : goal.returns-in-NoClick
unfolding outcome_number
returns-in-NoClick c = sym (ap outcome_number c.in-NoClick.is)
