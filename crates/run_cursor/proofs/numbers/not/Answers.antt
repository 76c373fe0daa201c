-- `not` turns the top value round.
use mathlib.Core.Path.{sym, ◌∙◌, ap}
use lib.Dec.{eqb}
use Rattle.run_store.specs.declared.values.Val.{Val}
use Rattle.run_values.specs.ValuesCode.{after_step, bool_val, on_top}
use Rattle.run_numbers.specs.NumbersCode.{bit, not_op}
use Rattle.run_values.specs.declared.steps.StepResult.TheVariants.{WentOn}
use Rattle.run_cursor.specs.CursorCode.{head_with, laid}
use Rattle.run_cursor.proofs.Shapes.{went-as}
use Rattle.run_cursor.proofs.Arms.{top-goes}
use Rattle.run_cursor.proofs.numbers.not.Goals as goal

pub returns : goal.returns
unfolding not_op
returns c =
    went-as
    (top-goes c.requires.0 c.in_ok-v.v c.in_ok-v.ensures (λ (v : Val). after_step WentOn (on_top (laid c.args.w.now c.args.h c.args.c) (head_with c.args.h c.args.c) (bool_val (bit (eqb v.number 0)))))
    ∙ ap (λ (v : Val). after_step WentOn (on_top (laid c.args.w.now c.args.h c.args.c) (head_with c.args.h c.args.c) v)) (sym c.flag.ensures))
    c.replace.ensures
