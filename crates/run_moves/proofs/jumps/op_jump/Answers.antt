-- `op_jump` writes the new place alone.
use Rattle.run_values.specs.ValuesCode.{after_step}
use Rattle.run_moves.specs.MovesCode.{jump_op}
use Rattle.run_values.specs.declared.steps.StepResult.TheVariants.{WentOn}
use Rattle.run_store.specs.StoreCode.{put_top, moved_to}
use mathlib.Core.Path.{◌∙◌, ap}
use Rattle.run_moves.proofs.jumps.op_jump.Goals as goal

pub returns : goal.returns
unfolding jump_op
returns c =
    let args = c.args in
    ap (after_step WentOn)
    (c.put_top.ensures
    ∙ ap (put_top args.w.now) (c.to.ensures ∙ ap (moved_to args.h) c.target.ensures))
