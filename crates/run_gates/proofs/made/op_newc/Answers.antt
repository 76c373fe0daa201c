-- `op_newc` goes by the count of channels.
use Rattle.run_gates.specs.GatesCode.{newc_op, after_event}
use Rattle.lists.proofs.Tests.{took, passed-by}
use mathlib.Core.Path.{refl, ap₂}
use borrow.Author.Tests.{lt-ltb, le-ltb}
use Rattle.run_gates.proofs.made.op_newc.Goals as goal

pub returns-then-made-lt16 : goal.returns-then-made-lt16
unfolding newc_op
returns-then-made-lt16 c =
    let args = c.args in
    took _ _ _ refl (lt-ltb args.made 16 c.if-made-lt16.true)
    (ap₂ after_event c.line.ensures c.push.ensures)

pub returns : goal.returns
unfolding newc_op
returns c =
    let args = c.args in
    passed-by _ _ _ refl (le-ltb args.made 16 c.if-made-lt16.false) (ap₂ after_event c.fault.ensures refl)
