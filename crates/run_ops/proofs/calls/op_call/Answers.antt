-- `op_call` tests the arguments, then the number of frames.
use Rattle.lists.proofs.Tests.{took, passed-by}
use Rattle.run_values.specs.ValuesCode.{after_step}
use Rattle.run_values.specs.declared.steps.StepResult.TheVariants.{WentOn}
use Rattle.run_ops.specs.OpsCode.{call_op, opened}
use Rattle.run_store.specs.StoreCode.{empty_down}
use borrow.Author.Tests.{le-leb, lt-leb}
use mathlib.Core.Path.{◌∙◌, ap, ap₂, refl}
use Rattle.run_ops.proofs.calls.op_call.Goals as goal

pub returns-then-any_empty : goal.returns-then-any_empty
unfolding call_op
returns-then-any_empty c =
    let args = c.args in
    took _ _ _
    (c.any_empty.ensures
    ∙ ap₂ (empty_down args.w.now) c.top.ensures c.params-n.ensures) c.if-any_empty.true refl

pub returns-then-h-ge8 : goal.returns-then-h-ge8
unfolding call_op
returns-then-h-ge8 c =
    let args = c.args in
    passed-by _ _ _
    (c.any_empty.ensures
    ∙ ap₂ (empty_down args.w.now) c.top.ensures c.params-n.ensures) c.if-any_empty.false
    (took _ _ _ refl (le-leb 8 args.h.frames c.if-h-ge8.true) refl)

pub returns : goal.returns
unfolding call_op
returns c =
    let args = c.args in
    passed-by _ _ _
    (c.any_empty.ensures
    ∙ ap₂ (empty_down args.w.now) c.top.ensures c.params-n.ensures) c.if-any_empty.false
    (passed-by _ _ _ refl (lt-leb 8 args.h.frames c.if-h-ge8.false)
    (ap (after_step WentOn)
    (c.open_frame.ensures
    ∙ ap (opened args.p.now args.w.now args.h args.a) c.params-n.ensures)))
