-- `put` stores the top value.
use Rattle.run_store.specs.declared.values.Val.{Val}
use Rattle.run_values.specs.ValuesCode.{after_step, in_slot}
use Rattle.run_moves.specs.MovesCode.{put_op}
use Rattle.run_values.specs.declared.steps.StepResult.TheVariants.{WentOn}
use Rattle.run_cursor.specs.CursorCode.{head_with, laid}
use Rattle.run_cursor.proofs.Shapes.{went-as}
use Rattle.run_cursor.proofs.Arms.{top-goes}
use Rattle.run_cursor.proofs.moves.put.Goals as goal

pub returns : goal.returns
unfolding put_op
returns c =
    went-as (top-goes c.requires.0 c.in_ok-v.v c.in_ok-v.ensures (λ (v : Val). after_step WentOn (in_slot
    (laid c.args.w.now c.args.h c.args.c) (head_with c.args.h c.args.c) c.args.a v))) c.store_slot.ensures
