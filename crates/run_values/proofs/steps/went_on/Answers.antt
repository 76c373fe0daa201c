-- `went_on` says no in every other case.
use mathlib.Core.Path.{sym, ap}
use Rattle.run_values.specs.ValuesCode.{went_on}
use Rattle.run_values.proofs.Cases.{not_on}
use Rattle.run_values.proofs.steps.went_on.Goals as goal

pub returns-in-WentOn : goal.returns-in-WentOn
unfolding went_on
returns-in-WentOn c = sym (ap went_on c.in-WentOn.is)

pub returns-in_default : goal.returns-in_default
returns-in_default c =
    let args = c.args in
    not_on args.step c.in_default.not-WentOn
