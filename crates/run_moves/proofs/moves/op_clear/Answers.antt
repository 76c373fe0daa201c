-- `op_clear` stores the empty value.
use Rattle.run_values.specs.ValuesCode.{after_step, in_slot}
use Rattle.run_moves.specs.MovesCode.{clear_op}
use Rattle.run_values.specs.declared.steps.StepResult.TheVariants.{WentOn}
use mathlib.Core.Path.{◌∙◌, ap}
use Rattle.run_moves.proofs.moves.op_clear.Goals as goal

pub returns : goal.returns
unfolding clear_op
returns c =
    let args = c.args in
    ap (after_step WentOn)
    (c.store_slot.ensures ∙ ap (in_slot args.w.now args.h args.a) c.empty.ensures)
