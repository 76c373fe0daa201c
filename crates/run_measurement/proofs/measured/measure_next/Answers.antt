-- `measure_next` goes by whether an outcome is left.
use mathlib.Core.Path.{refl, sym, ◌∙◌, ap, ap₂}
use mathlib.Core.Option.{some}
use Rattle.run_measurement.specs.Outcome.{outcome_no}
use Rattle.run_gates.specs.GatesCode.{after_event}
use Rattle.run_measurement.specs.MeasurementCode.{measured_as}
use Rattle.run_measurement.proofs.measured.measure_next.Goals as goal

pub returns-in-Some : goal.returns-in-Some
unfolding outcome_no
returns-in-Some c =
    c.measure.ensures
    ∙ ap (measured_as c.args.w.now c.args.h)
    (ap some c.number.ensures ∙ sym (ap outcome_no c.in-Some.is) ∙ c.next_outcome.ensures)

pub returns-in-None : goal.returns-in-None
unfolding outcome_no measured_as
returns-in-None c =
    ap₂ after_event c.fault.ensures refl
    ∙ ap (measured_as c.args.w.now c.args.h) (sym (ap outcome_no c.in-None.is) ∙ c.next_outcome.ensures)
