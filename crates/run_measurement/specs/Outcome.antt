-- The number of each outcome. Paper 3: "The next-outcome routine promises 0, 1 or 2".
use Rattle.std.specs.Prelude as std
use Rattle.std.specs.Prelude.{ℕ}
use Rattle.std.proofs.Math.Option.{Option, none, some}
use Rattle.run_measurement.specs.declared.outcome.Outcome.{Outcome}
use Rattle.run_measurement.specs.declared.outcome.Outcome.TheVariants.{Zero, One, NoClick}

-- "Outcome byte 2 is now allowed and means no click"
unfoldable pub outcome_number : Outcome → ℕ
outcome_number Zero = 0
outcome_number One = 1
outcome_number NoClick = 2

-- that of the next outcome; none is fault 24's "no outcome left"
unfoldable pub outcome_no : std.Option Outcome → Option ℕ
outcome_no (std.Some o) = some (outcome_number o)
outcome_no std.None = none
