-- `result` goes by the range of the sum, and moves it back.
use Rattle.run_values.specs.ValuesCode.{after_step}
use Rattle.run_values.specs.declared.steps.StepResult.TheVariants.{WentOn}
use mathlib.Core.Path.{◌∙◌, ap}
use Rattle.run_numbers.proofs.Returns.{result_low, result-high, result-in}
use Rattle.run_numbers.proofs.numbers.result.Goals as goal

pub returns-then-s-lt2147483648 : goal.returns-then-s-lt2147483648
returns-then-s-lt2147483648 c =
    result_low c.args.w.now c.args.h c.args.s
    c.if-s-lt2147483648.true

pub returns-then-s-ge6442450944 : goal.returns-then-s-ge6442450944
returns-then-s-ge6442450944 c =
    let args = c.args in
    result-high args.w.now args.h args.s c.if-s-lt2147483648.false c.if-s-ge6442450944.true

pub returns : goal.returns
returns c =
    let args = c.args in
    ap (after_step WentOn) c.replace_two.ensures
    ∙ result-in args.w.now args.h args.s c.if-s-lt2147483648.false c.if-s-ge6442450944.false
