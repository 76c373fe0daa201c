-- `op_jfalse` goes by whether the value is emptied, and whether it is false.
use Rattle.run_values.specs.ValuesCode.{after_step, drop_to}
use Rattle.run_moves.specs.MovesCode.{jfalse_op}
use Rattle.run_values.specs.declared.steps.StepResult.TheVariants.{WentOn}
use Rattle.run_values.proofs.Returns.{empty-stops, full-goes}
use Rattle.run_moves.proofs.Returns.{jfalse-jumps, jfalse-goes}
use Rattle.run_store.specs.StoreCode.{value_at}
use mathlib.Core.Path.{◌∙◌, ap}
use Rattle.run_moves.proofs.jumps.op_jfalse.Goals as goal

pub returns-then-v-eq0 : goal.returns-then-v-eq0
unfolding jfalse_op
returns-then-v-eq0 c =
    let args = c.args in
    empty-stops _ _ _ (c.value-v.ensures ∙ ap (value_at args.w.now) c.top.ensures) c.if-v-eq0.true

pub returns-then-v-eq0-2 : goal.returns-then-v-eq0-2
unfolding jfalse_op
returns-then-v-eq0-2 c =
    let args = c.args in
    full-goes _ _ _ (c.value-v.ensures ∙ ap (value_at args.w.now) c.top.ensures) c.if-v-eq0.false
    (jfalse-jumps _ _ _ (c.value-v.ensures ∙ ap (value_at args.w.now) c.top.ensures)
    c.if-v-eq0-2.true
    (ap (after_step WentOn)
    (c.discard_to.ensures ∙ ap (drop_to args.w.now args.h) c.target.ensures)))

pub returns : goal.returns
unfolding jfalse_op
returns c =
    let args = c.args in
    full-goes _ _ _ (c.value-v.ensures ∙ ap (value_at args.w.now) c.top.ensures) c.if-v-eq0.false
    (jfalse-goes _ _ _ (c.value-v.ensures ∙ ap (value_at args.w.now) c.top.ensures)
    c.if-v-eq0-2.false (ap (after_step WentOn) c.discard.ensures))
