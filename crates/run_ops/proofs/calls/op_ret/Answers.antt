-- `op_ret` goes by whether the method is void, whether the value is emptied, and whether it is the root frame.
use Rattle.run_values.proofs.Returns.{empty-stops, full-goes}
use Rattle.lists.proofs.Tests.{took, passed-by}
use Rattle.run_values.specs.ValuesCode.{after_step}
use Rattle.run_values.specs.declared.steps.StepResult.TheVariants.{WentOn}
use Rattle.run_ops.specs.OpsCode.{ret_op, handed}
use Rattle.run_store.specs.StoreCode.{value_at}
use Prim.Native.Nat.{ℕ}
use lib.Dec.{eqb}
use borrow.Author.Tests.{eq-eqb, ne_eqb}
use mathlib.Core.Path.{◌∙◌, ap, ap₂, refl}
use Rattle.run_ops.proofs.calls.op_ret.Goals as goal

pub returns-then-h-eq1 : goal.returns-then-h-eq1
unfolding ret_op
returns-then-h-eq1 c =
    let args = c.args in
    took _ _ _ (ap (λ (t : ℕ). eqb t 0) c.returns.ensures.0) (eq-eqb _ 0 c.if-returns-eq0.true)
    (took _ _ _ refl (eq-eqb args.h.frames 1 c.if-h-eq1.true) refl)

pub returns-then-returns-eq0 : goal.returns-then-returns-eq0
unfolding ret_op
returns-then-returns-eq0 c =
    let args = c.args in
    took _ _ _ (ap (λ (t : ℕ). eqb t 0) c.returns.ensures.0) (eq-eqb _ 0 c.if-returns-eq0.true)
    (passed-by _ _ _ refl (ne_eqb args.h.frames 1 c.if-h-eq1.false)
    (ap (after_step WentOn) c.close_frame.ensures))

pub returns-then-v-eq0 : goal.returns-then-v-eq0
unfolding ret_op
returns-then-v-eq0 c =
    let args = c.args in
    passed-by _ _ _ (ap (λ (t : ℕ). eqb t 0) c.returns.ensures.0) (ne_eqb _ 0 c.if-returns-eq0.false)
    (empty-stops _ _ _ (c.value-v.ensures ∙ ap (value_at args.w.now) c.top.ensures) c.if-v-eq0.true)

pub returns-then-h-eq1-2 : goal.returns-then-h-eq1-2
unfolding ret_op
returns-then-h-eq1-2 c =
    let args = c.args in
    passed-by _ _ _ (ap (λ (t : ℕ). eqb t 0) c.returns.ensures.0) (ne_eqb _ 0 c.if-returns-eq0.false)
    (full-goes _ _ _ (c.value-v.ensures ∙ ap (value_at args.w.now) c.top.ensures) c.if-v-eq0.false
    (took _ _ _ refl (eq-eqb args.h.frames 1 c.if-h-eq1-2.true) refl))

pub returns : goal.returns
unfolding ret_op
returns c =
    let args = c.args in
    passed-by _ _ _ (ap (λ (t : ℕ). eqb t 0) c.returns.ensures.0) (ne_eqb _ 0 c.if-returns-eq0.false)
    (full-goes _ _ _ (c.value-v.ensures ∙ ap (value_at args.w.now) c.top.ensures) c.if-v-eq0.false
    (passed-by _ _ _ refl (ne_eqb args.h.frames 1 c.if-h-eq1-2.false)
    (ap (after_step WentOn)
    (c.hand_back.ensures
    ∙ ap₂ handed c.close_frame-2.ensures
    (c.value-v.ensures ∙ ap (value_at args.w.now) c.top.ensures)))))
