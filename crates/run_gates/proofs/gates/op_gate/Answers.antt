-- `op_gate` goes by the gate's number.
use Rattle.run_gates.specs.GatesCode.{gate_op}
use Rattle.lists.proofs.Tests.{took, passed-by}
use mathlib.Core.Path.{refl}
use borrow.Author.Tests.{le-leb, lt-leb}
use Rattle.run_gates.proofs.gates.op_gate.Goals as goal

pub returns-then-a-le5 : goal.returns-then-a-le5
unfolding gate_op
returns-then-a-le5 c =
    let args = c.args in
    took _ _ _ refl (le-leb args.a 5 c.if-a-le5.true) c.gate_one.ensures

pub returns : goal.returns
unfolding gate_op
returns c =
    let args = c.args in
    passed-by _ _ _ refl (lt-leb args.a 5 c.if-a-le5.false) c.gate_two.ensures
