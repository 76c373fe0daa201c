-- `op_int` pushes the extended argument.
use Rattle.run_values.specs.ValuesCode.{after_step, push_on, int_val}
use Rattle.run_moves.specs.MovesCode.{int_op}
use Rattle.run_values.specs.declared.steps.StepResult.TheVariants.{WentOn}
use mathlib.Core.Path.{◌∙◌, ap}
use Prim.Native.Nat.{ℕ}
use Rattle.run_moves.proofs.moves.op_int.Goals as goal

pub returns : goal.returns
unfolding int_op
returns c =
    let args = c.args in
    ap (after_step WentOn)
    (c.push.ensures ∙ ap (λ (n : ℕ). push_on args.w.now args.h (int_val n)) c.extend.ensures)
