-- `gate_two` goes by whether a qubit is emptied, and whether the two are one.
use Rattle.run_gates.specs.GatesCode.{gate_two, after_event, line_event}
use Rattle.lists.proofs.Tests.{took, passed-by}
use mathlib.Core.Path.{refl, ◌∙◌, ap₂}
use lib.Dec.{eqb}
use borrow.Author.Tests.{eq-eqb, ne_eqb}
use Rattle.run_gates.proofs.gates.gate_two.Goals as goal

pub returns-then-two_empty : goal.returns-then-two_empty
unfolding gate_two
returns-then-two_empty c = took _ _ _ c.two_empty.ensures c.if-two_empty.true (ap₂ after_event c.fault.ensures refl)

pub returns-then-deeper-q : goal.returns-then-deeper-q
unfolding gate_two
returns-then-deeper-q c =
    passed-by _ _ _ c.two_empty.ensures c.if-two_empty.false
    (took _ _ _ (ap₂ eqb c.qubit_no-deeper.ensures c.qubit_no-q.ensures)
    (eq-eqb _ _ c.if-deeper-q.true) (ap₂ after_event c.fault-then-deeper-q.ensures refl))

pub returns : goal.returns
unfolding gate_two
returns c =
    let args = c.args in
    passed-by _ _ _ c.two_empty.ensures c.if-two_empty.false
    (passed-by _ _ _ (ap₂ eqb c.qubit_no-deeper.ensures c.qubit_no-q.ensures)
    (ne_eqb _ _ c.if-deeper-q.false)
    (ap₂ after_event
    (c.line.ensures
    ∙ ap₂ (λ x y. line_event 3 args.a x y) c.qubit_no-deeper.ensures c.qubit_no-q.ensures)
    c.discard_two.ensures))
