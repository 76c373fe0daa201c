-- `step` acts where the process runs; its status is looked at first.
use Rattle.lists.proofs.Tests.{passed-by}
use Rattle.run_ops.proofs.Returns.{step-acts}
use Rattle.run_ops.specs.OpsCode.{step_op}
use Rattle.run_store.specs.StoreCode.{head_of}
use Rattle.run_store.specs.declared.head.Head.{Head}
use borrow.Author.Tests.{ne_eqb}
use mathlib.Core.Path.{◌∙◌, ap, refl, sym}
use lib.ListN.{get_or}
use Rattle.run_ops.proofs.step.step.Goals as goal

pub returns-then-get-ne1 : goal.returns-then-get-ne1
unfolding step_op head_of
returns-then-get-ne1 c =
    passed-by _ _ _ refl (ne_eqb (get_or c.args.w.now 0 0) 1
    (λ e. c.if-get-ne1.true (c.get.ensures ∙ e))) refl

pub returns : goal.returns
unfolding head_of
returns c =
    step-acts c.args.p.now c.args.w.now c.read_head-h.ensures
    (ap (λ (h : Head). h.status) c.read_head-h.ensures ∙ sym
    c.get.ensures ∙ c.if-get-ne1.false)
    c.instruction-i.ensures.0
    c.instruction-i.ensures.1 c.act.ensures
