-- The tests of a step's answer say no in every case that they do not name.
use mathlib.Core.Path.{◌≡◌, refl}
use mathlib.Core.Bool.{false}
use Rattle.run_values.specs.declared.steps.StepResult.{StepResult}
use Rattle.run_values.specs.declared.steps.StepResult.TheVariants.{WentOn, NotRunning, AtNewQ, AtNewC, AtGate, AtMeas, AtLastRet, AtFork, AtSend, AtRecv, Empty, FrameBeyond8, OutOfRange}
use Rattle.run_values.specs.ValuesCode.{went_on, not_running, is_send, is_offer}

pub not_on : (r : StepResult) → (r ≡ WentOn → ⊥) → false ≡ went_on r
unfolding went_on
not_on WentOn k = absurd (k refl)
not_on NotRunning k = refl
not_on AtNewQ k = refl
not_on AtNewC k = refl
not_on AtGate k = refl
not_on AtMeas k = refl
not_on AtLastRet k = refl
not_on AtFork k = refl
not_on AtSend k = refl
not_on AtRecv k = refl
not_on Empty k = refl
not_on FrameBeyond8 k = refl
not_on OutOfRange k = refl

pub is-running : (r : StepResult) → (r ≡ NotRunning → ⊥) → false ≡ not_running r
unfolding not_running
is-running WentOn k = refl
is-running NotRunning k = absurd (k refl)
is-running AtNewQ k = refl
is-running AtNewC k = refl
is-running AtGate k = refl
is-running AtMeas k = refl
is-running AtLastRet k = refl
is-running AtFork k = refl
is-running AtSend k = refl
is-running AtRecv k = refl
is-running Empty k = refl
is-running FrameBeyond8 k = refl
is-running OutOfRange k = refl

pub no-send : (r : StepResult) → (r ≡ AtSend → ⊥) → false ≡ is_send r
unfolding is_send
no-send WentOn k = refl
no-send NotRunning k = refl
no-send AtNewQ k = refl
no-send AtNewC k = refl
no-send AtGate k = refl
no-send AtMeas k = refl
no-send AtLastRet k = refl
no-send AtFork k = refl
no-send AtSend k = absurd (k refl)
no-send AtRecv k = refl
no-send Empty k = refl
no-send FrameBeyond8 k = refl
no-send OutOfRange k = refl

pub no-offer : (r : StepResult) → (r ≡ AtSend → ⊥) → (r ≡ AtRecv → ⊥) → false ≡ is_offer r
unfolding is_offer
no-offer WentOn k0 k1 = refl
no-offer NotRunning k0 k1 = refl
no-offer AtNewQ k0 k1 = refl
no-offer AtNewC k0 k1 = refl
no-offer AtGate k0 k1 = refl
no-offer AtMeas k0 k1 = refl
no-offer AtLastRet k0 k1 = refl
no-offer AtFork k0 k1 = refl
no-offer AtSend k0 k1 = absurd (k0 refl)
no-offer AtRecv k0 k1 = absurd (k1 refl)
no-offer Empty k0 k1 = refl
no-offer FrameBeyond8 k0 k1 = refl
no-offer OutOfRange k0 k1 = refl
