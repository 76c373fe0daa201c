-- `eq` has the answer in place of its operands.
use Prim.Native.Nat.{ℕ}
use mathlib.Core.Path.{sym, ◌∙◌, ap}
use lib.Dec.{eqb}
use Rattle.run_store.specs.declared.values.Val.{Val}
use Rattle.run_values.specs.ValuesCode.{after_step, bool_val, over_two}
use Rattle.run_numbers.specs.NumbersCode.{bit, eq_op}
use Rattle.run_values.specs.declared.steps.StepResult.TheVariants.{WentOn}
use Rattle.run_cursor.specs.CursorCode.{head_with, laid}
use Rattle.run_cursor.proofs.Shapes.{went-as}
use Rattle.run_cursor.proofs.Arms.{two-goes}
use Rattle.run_cursor.proofs.numbers.eq.Goals as goal

pub returns : goal.returns
unfolding eq_op
returns c =
    went-as
    (two-goes c.requires.0 c.in_ok-x.x c.in_ok-x.y c.in_ok-x.ensures (λ (x y : ℕ). after_step WentOn (over_two (laid c.args.w.now c.args.h c.args.c) (head_with c.args.h c.args.c)
    (bool_val (bit (eqb x y)))))
    ∙ ap (λ (v : Val). after_step WentOn (over_two (laid c.args.w.now c.args.h c.args.c) (head_with c.args.h c.args.c) v)) (sym c.flag.ensures))
    c.replace_two.ensures
