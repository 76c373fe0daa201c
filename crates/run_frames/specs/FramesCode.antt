-- What is said of CALL and RET as they are done on the words of a process.
use Rattle.std.specs.Prelude.{ℕ, ◌≡◌, Bool, true, false, List}
use Rattle.run_values.specs.ValuesCode.{AfterStep, after_step}
use Rattle.run_values.specs.declared.steps.StepResult.TheVariants.{WentOn}

-- an op on the words as they are was done, or nothing was
pub record Does (r : Bool) (d : AfterStep) (w w' : List ℕ) : Type 0 where
  pub done : r ≡ true → d ≡ after_step WentOn w'
  pub left : r ≡ false → w' ≡ w
