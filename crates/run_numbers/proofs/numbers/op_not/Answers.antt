-- `op_not` goes by whether the operand is emptied.
use Rattle.run_store.specs.declared.values.Val.{Val}
use lib.Dec.{eqb}
use Rattle.run_values.specs.ValuesCode.{after_step, on_top, bool_val}
use Rattle.run_numbers.specs.NumbersCode.{not_op, bit}
use Rattle.run_values.specs.declared.steps.StepResult.TheVariants.{WentOn}
use Rattle.run_values.proofs.Returns.{empty-stops, full-goes}
use Rattle.run_store.specs.StoreCode.{value_at}
use mathlib.Core.Path.{◌∙◌, ap}
use Rattle.run_numbers.proofs.numbers.op_not.Goals as goal

pub returns-then-v-eq0 : goal.returns-then-v-eq0
unfolding not_op
returns-then-v-eq0 c =
    let args = c.args in
    empty-stops _ _ _ (c.value-v.ensures ∙ ap (value_at args.w.now) c.top.ensures) c.if-v-eq0.true

pub returns : goal.returns
unfolding not_op
returns c =
    let args = c.args in
    full-goes _ _ _ (c.value-v.ensures ∙ ap (value_at args.w.now) c.top.ensures) c.if-v-eq0.false
    (ap (after_step WentOn)
    (c.replace.ensures
    ∙ ap (on_top args.w.now args.h)
    (c.flag.ensures
    ∙ ap (λ (v : Val). bool_val (bit (eqb v.number 0)))
    (c.value-v.ensures ∙ ap (value_at args.w.now) c.top.ensures))))
