-- What is known where an entry stands to be taken: the state is one that a run comes to, the trace t0 was lent with
-- room for so many lines, and the outcomes used can be counted.
use Prim.Native.Nat.{ℕ, ◌*◌, ◌≤◌, ◌<◌}
use mathlib.Core.List.{List}
use lib.ListN.{length}
use Rattle.machine.specs.State.{State}
use Rattle.machine.proofs.Reachable.{Reachable}

pub record Here (p outcomes : List ℕ) (s : State) (t0 : List ℕ) (room : ℕ) : Type 0 where
  pub reached : Reachable p outcomes s
  pub holds : 6 * room ≤ length t0
  pub small : s.used < 4000000000
