-- `measure` puts the outcome in the place of the qubit.
use mathlib.Core.Path.{◌∙◌, ap, ap₂}
use Rattle.run_gates.specs.GatesCode.{after_event, measured_event}
use Rattle.run_measurement.specs.MeasurementCode.{measured_as}
use Rattle.run_measurement.proofs.measured.measure.Goals as goal

pub returns : goal.returns
unfolding measured_as
returns c =
    let args = c.args in
    ap₂ after_event (c.measured.ensures ∙ ap (λ q. measured_event q args.outcome) c.qubit_no-q.ensures)
    c.replace.ensures
