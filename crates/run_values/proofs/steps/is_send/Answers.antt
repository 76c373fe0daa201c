-- `is_send` says no in every other case.
use mathlib.Core.Path.{sym, ap}
use Rattle.run_values.specs.ValuesCode.{is_send}
use Rattle.run_values.proofs.Cases.{no-send}
use Rattle.run_values.proofs.steps.is_send.Goals as goal

pub returns-in-AtSend : goal.returns-in-AtSend
unfolding is_send
returns-in-AtSend c = sym (ap is_send c.in-AtSend.is)

pub returns-in_default : goal.returns-in_default
returns-in_default c =
    let args = c.args in
    no-send args.step c.in_default.not-AtSend
