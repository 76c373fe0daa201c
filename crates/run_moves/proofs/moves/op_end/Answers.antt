-- `op_end` goes by whether the channel is emptied, and makes the end by its side.
use Rattle.run_values.specs.ValuesCode.{after_step, on_top}
use Rattle.run_moves.specs.MovesCode.{end_op}
use Rattle.run_values.specs.declared.steps.StepResult.TheVariants.{WentOn}
use Prim.Native.Nat.{◌+◌}
use Rattle.run_store.specs.declared.values.Val.{Val}
use Rattle.run_values.proofs.Returns.{empty-stops, full-goes}
use Rattle.run_store.specs.StoreCode.{value_at}
use mathlib.Core.Path.{◌∙◌, ap}
use Rattle.run_moves.proofs.moves.op_end.Goals as goal

pub returns-then-v-eq0 : goal.returns-then-v-eq0
unfolding end_op
returns-then-v-eq0 c =
    let args = c.args in
    empty-stops _ _ _ (c.value-v.ensures ∙ ap (value_at args.w.now) c.top.ensures) c.if-v-eq0.true

pub returns : goal.returns
unfolding end_op
returns c =
    let args = c.args in
    full-goes _ _ _ (c.value-v.ensures ∙ ap (value_at args.w.now) c.top.ensures) c.if-v-eq0.false
    (ap (after_step WentOn)
    (c.replace.ensures
    ∙ ap (λ (v : Val). on_top args.w.now args.h (record { tag = 5 + args.a; number = v.number }))
    (c.value-v.ensures ∙ ap (value_at args.w.now) c.top.ensures)))
