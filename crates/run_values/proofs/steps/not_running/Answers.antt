-- `not_running` says no in every other case.
use mathlib.Core.Path.{sym, ap}
use Rattle.run_values.specs.ValuesCode.{not_running}
use Rattle.run_values.proofs.Cases.{is-running}
use Rattle.run_values.proofs.steps.not_running.Goals as goal

pub returns-in-NotRunning : goal.returns-in-NotRunning
unfolding not_running
returns-in-NotRunning c = sym (ap not_running c.in-NotRunning.is)

pub returns-in_default : goal.returns-in_default
returns-in_default c =
    let args = c.args in
    is-running args.step c.in_default.not-NotRunning
