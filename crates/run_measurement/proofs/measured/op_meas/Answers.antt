-- `op_meas` goes by whether the qubit is emptied.
use mathlib.Core.Path.{refl, ◌∙◌, ap, ap₂}
use lib.Dec.{eqb}
use borrow.Author.Tests.{eq-eqb, ne_eqb}
use Rattle.run_store.specs.declared.values.Val.{Val}
use Rattle.run_store.specs.StoreCode.{value_at}
use Rattle.lists.proofs.Tests.{took, passed-by}
use Rattle.run_gates.specs.GatesCode.{after_event}
use Rattle.run_measurement.specs.MeasurementCode.{meas_op}
use Rattle.run_measurement.proofs.measured.op_meas.Goals as goal

pub returns-then-v-eq0 : goal.returns-then-v-eq0
unfolding meas_op
returns-then-v-eq0 c =
    let args = c.args in
    took _ _ _
    (ap (λ (v : Val). eqb v.tag 0) (c.value-v.ensures ∙ ap (value_at args.w.now) c.top.ensures))
    (eq-eqb _ 0 c.if-v-eq0.true) (ap₂ after_event c.fault.ensures refl)

pub returns : goal.returns
unfolding meas_op
returns c =
    let args = c.args in
    passed-by _ _ _
    (ap (λ (v : Val). eqb v.tag 0) (c.value-v.ensures ∙ ap (value_at args.w.now) c.top.ensures))
    (ne_eqb _ 0 c.if-v-eq0.false) c.measure_next.ensures
