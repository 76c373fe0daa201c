-- `end_of` has an end in place of its channel.
use Prim.Native.Nat.{◌+◌}
use Rattle.run_store.specs.declared.values.Val.{Val}
use Rattle.run_values.specs.ValuesCode.{after_step, on_top}
use Rattle.run_moves.specs.MovesCode.{end_op}
use Rattle.run_values.specs.declared.steps.StepResult.TheVariants.{WentOn}
use Rattle.run_cursor.specs.CursorCode.{head_with, laid}
use Rattle.run_cursor.proofs.Shapes.{went-as}
use Rattle.run_cursor.proofs.Arms.{top-goes}
use Rattle.run_cursor.proofs.moves.end_of.Goals as goal

pub returns : goal.returns
unfolding end_op
returns c =
    went-as (top-goes c.requires.0 c.in_ok-number.field-0 c.in_ok-number.ensures (λ (v : Val). after_step WentOn (on_top
    (laid c.args.w.now c.args.h c.args.c) (head_with c.args.h c.args.c) (record { tag = 5 + c.args.a; number = v.number })))) c.replace.ensures
