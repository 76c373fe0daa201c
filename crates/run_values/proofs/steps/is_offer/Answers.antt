-- `is_offer` says no in every other case.
use mathlib.Core.Bool.{true}
use mathlib.Core.Logic.{◌⊎◌, inl, inr}
use mathlib.Core.Path.{◌≡◌, sym, ap}
use Rattle.run_values.specs.declared.steps.StepResult.{StepResult}
use Rattle.run_values.specs.declared.steps.StepResult.TheVariants.{AtSend, AtRecv}
use Rattle.run_values.specs.ValuesCode.{is_offer}
use Rattle.run_values.proofs.Cases.{no-offer}
use Rattle.run_values.proofs.steps.is_offer.Goals as goal

pub returns-in-AtSend : goal.returns-in-AtSend
unfolding is_offer
returns-in-AtSend c = either c.in-AtSend.is
  where
    either : {s : StepResult} → (s ≡ AtSend) ⊎ (s ≡ AtRecv) → true ≡ is_offer s
    either (inl e) = sym (ap is_offer e)
    either (inr e) = sym (ap is_offer e)

pub returns-in_default : goal.returns-in_default
returns-in_default c =
    let args = c.args in
    no-offer args.step c.in_default.not-AtSend c.in_default.not-AtRecv
