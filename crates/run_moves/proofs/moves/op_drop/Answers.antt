-- `op_drop` goes by whether the top value is emptied.
use Rattle.run_values.specs.ValuesCode.{after_step}
use Rattle.run_moves.specs.MovesCode.{drop_op}
use Rattle.run_values.specs.declared.steps.StepResult.TheVariants.{WentOn}
use Rattle.run_values.proofs.Returns.{empty-stops, full-goes}
use Rattle.run_store.specs.StoreCode.{value_at}
use mathlib.Core.Path.{◌∙◌, ap}
use Rattle.run_moves.proofs.moves.op_drop.Goals as goal

pub returns-then-v-eq0 : goal.returns-then-v-eq0
unfolding drop_op
returns-then-v-eq0 c =
    let args = c.args in
    empty-stops _ _ _ (c.value-v.ensures ∙ ap (value_at args.w.now) c.top.ensures) c.if-v-eq0.true

pub returns : goal.returns
unfolding drop_op
returns c =
    let args = c.args in
    full-goes _ _ _ (c.value-v.ensures ∙ ap (value_at args.w.now) c.top.ensures) c.if-v-eq0.false
    (ap (after_step WentOn) c.discard.ensures)
