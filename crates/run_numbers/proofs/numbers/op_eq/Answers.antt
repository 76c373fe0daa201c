-- `op_eq` goes by whether an operand is emptied, and compares the words.
use Rattle.run_values.specs.ValuesCode.{after_step, over_two}
use Rattle.run_numbers.specs.NumbersCode.{eq_op}
use Rattle.run_values.specs.declared.steps.StepResult.TheVariants.{WentOn}
use Rattle.run_numbers.proofs.Returns.{two-none, two-some}
use mathlib.Core.Path.{◌∙◌, ap}
use Rattle.run_numbers.proofs.numbers.op_eq.Goals as goal

pub returns-in_default : goal.returns-in_default
unfolding eq_op
returns-in_default c =
    let args = c.args in
    two-none args.w.now args.h _ c.two_numbers.ensures c.in_default.is

pub returns : goal.returns
unfolding eq_op
returns c =
    let args = c.args in
    two-some args.w.now args.h _ c.two_numbers.ensures c.in-Some.is
    (ap (after_step WentOn)
    (c.replace_two.ensures ∙ ap (over_two args.w.now args.h) c.flag.ensures))
