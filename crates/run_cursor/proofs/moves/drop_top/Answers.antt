-- `drop_top` takes the top value off.
use mathlib.Core.Path.{◌∙◌, ap}
use Rattle.run_store.specs.declared.values.Val.{Val}
use Rattle.run_values.specs.ValuesCode.{after_step, drop_top}
use Rattle.run_moves.specs.MovesCode.{drop_op}
use Rattle.run_values.specs.declared.steps.StepResult.TheVariants.{WentOn}
use Rattle.run_cursor.specs.CursorCode.{head_with, laid}
use Rattle.run_cursor.proofs.Shapes.{went-as, drops-on}
use Rattle.run_cursor.proofs.Arms.{top-goes}
use Rattle.run_cursor.proofs.moves.drop_top.Goals as goal

pub returns : goal.returns
unfolding drop_op
returns c =
    let top = c.in_ok-read_top in
    went-as
    (top-goes c.requires.0 top.field-0 top.ensures (λ (v : Val). after_step WentOn (drop_top (laid c.args.w.now c.args.h c.args.c) (head_with c.args.h c.args.c)))
    ∙ ap (after_step WentOn) (drops-on c.requires.0 c.requires.1 top.ensures.0))
    c.discard_to.ensures
