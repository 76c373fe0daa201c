-- `gate_one` goes by whether the qubit is emptied.
use Rattle.run_gates.specs.GatesCode.{gate_one, after_event, line_event}
use Rattle.lists.proofs.Tests.{took, passed-by}
use Rattle.run_store.specs.declared.values.Val.{Val}
use Rattle.run_store.specs.StoreCode.{value_at}
use mathlib.Core.Path.{refl, ◌∙◌, ap, ap₂}
use lib.Dec.{eqb}
use borrow.Author.Tests.{eq-eqb, ne_eqb}
use Rattle.run_gates.proofs.gates.gate_one.Goals as goal

pub returns-then-v-eq0 : goal.returns-then-v-eq0
unfolding gate_one
returns-then-v-eq0 c =
    let args = c.args in
    took _ _ _
    (ap (λ (v : Val). eqb v.tag 0) (c.value-v.ensures ∙ ap (value_at args.w.now) c.top.ensures))
    (eq-eqb _ 0 c.if-v-eq0.true) (ap₂ after_event c.fault.ensures refl)

pub returns : goal.returns
unfolding gate_one
returns c =
    let args = c.args in
    passed-by _ _ _
    (ap (λ (v : Val). eqb v.tag 0) (c.value-v.ensures ∙ ap (value_at args.w.now) c.top.ensures))
    (ne_eqb _ 0 c.if-v-eq0.false)
    (ap₂ after_event (c.line.ensures ∙ ap (λ q. line_event 3 args.a q 65535) c.qubit_no-q.ensures)
    c.discard.ensures)
