-- `op_less` goes by whether an operand is emptied, and compares what was moved up.
use Rattle.run_values.specs.ValuesCode.{after_step, over_two, bool_val}
use Rattle.run_numbers.specs.NumbersCode.{less_op, bit}
use Rattle.run_values.specs.declared.steps.StepResult.TheVariants.{WentOn}
use Rattle.run_numbers.proofs.Returns.{two-none, two-some}
use Prim.Native.Nat.{ℕ}
use mathlib.Core.Path.{◌∙◌, ap, ap₂}
use lib.Dec.{ltb}
use Rattle.run_numbers.proofs.numbers.op_less.Goals as goal

pub returns-in_default : goal.returns-in_default
unfolding less_op
returns-in_default c =
    let args = c.args in
    two-none args.w.now args.h _ c.two_numbers.ensures c.in_default.is

pub returns : goal.returns
unfolding less_op
returns c =
    let args = c.args in
    two-some args.w.now args.h _ c.two_numbers.ensures c.in-Some.is
    (ap (after_step WentOn)
    (c.replace_two.ensures
    ∙ ap (over_two args.w.now args.h)
    (c.flag.ensures
    ∙ ap₂ (λ (a b : ℕ). bool_val (bit (ltb a b))) c.bias.ensures.0 c.bias-2.ensures.0)))
