-- A place that the code answers, where there is one, in the definitions' words.
use Rattle.std.specs.Prelude.{ℕ}
use Rattle.std.specs.Prelude as P
use Rattle.std.proofs.Math.Option.{Option, none, some}

unfoldable pub fault_in : P.Option ℕ → Option ℕ
fault_in P.None = none
fault_in (P.Some i) = some i
