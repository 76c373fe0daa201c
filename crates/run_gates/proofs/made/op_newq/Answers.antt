-- `op_newq` goes by the count of qubits.
use Rattle.run_gates.specs.GatesCode.{newq_op, after_event}
use Rattle.lists.proofs.Tests.{took, passed-by}
use mathlib.Core.Path.{refl, ap₂}
use borrow.Author.Tests.{lt-ltb, le-ltb}
use Rattle.run_gates.proofs.made.op_newq.Goals as goal

pub returns-then-made-lt32 : goal.returns-then-made-lt32
unfolding newq_op
returns-then-made-lt32 c =
    let args = c.args in
    took _ _ _ refl (lt-ltb args.made 32 c.if-made-lt32.true)
    (ap₂ after_event c.line.ensures c.push.ensures)

pub returns : goal.returns
unfolding newq_op
returns c =
    let args = c.args in
    passed-by _ _ _ refl (le-ltb args.made 32 c.if-made-lt32.false) (ap₂ after_event c.fault.ensures refl)
