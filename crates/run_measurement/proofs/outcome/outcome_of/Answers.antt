-- `outcome_of` is the byte, 0, 1 or anything else.
use Prim.Native.Nat.{ℕ}
use mathlib.Core.Bool.{Bool, cond}
use mathlib.Core.Path.{sym, ap, ap₂}
use borrow.Author.Tests.{ne_eqb}
use Rattle.run_measurement.specs.Outcome.{outcome_number}
use Rattle.run_measurement.specs.MeasurementCode.{clipped}
use Rattle.run_measurement.proofs.outcome.outcome_of.Goals as goal

pub returns-in-0 : goal.returns-in-0
unfolding outcome_number clipped
returns-in-0 c = sym (ap clipped c.in-0.is)

pub returns-in-1 : goal.returns-in-1
unfolding outcome_number clipped
returns-in-1 c = sym (ap clipped c.in-1.is)

pub returns-in_default : goal.returns-in_default
unfolding outcome_number clipped
returns-in_default c =
    sym
    (ap₂ (λ (a b : Bool). cond {A = ℕ} a 0 (cond b 1 2)) (ne_eqb _ 0 c.in_default.in_default-own.rest.0.1)
    (ne_eqb _ 1 c.in_default.in_default-own.rest.1))
