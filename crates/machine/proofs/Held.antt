-- The holders that the lines of a run give: whatever was made has one, which is a process made, and nothing else has.
use Prim.Native.Nat.{ℕ, ◌<◌}
use mathlib.Core.List.{List}
use lib.ListN.{length}
use Rattle.machine.specs.Value.{Thing}
use Rattle.machine.specs.State.{State}
use Rattle.machine.specs.Run.{run}
use Rattle.machine.specs.Owner.{Holds}
use Rattle.machine.specs.Sound.{Made}
use Rattle.machine.proofs.Ownership.{run-kept}

module _ (p outcomes : List ℕ) (room : ℕ) (schedule : List ℕ) where
  abbrev after : State
  after = (run p outcomes room schedule).state

  pub made_held : (x : Thing) → Made after.config x → (q : ℕ) × Holds after.lines q x
  made_held = (run-kept p outcomes room schedule).held

  pub held-made : (x : Thing) (q : ℕ) → Holds after.lines q x
      → Made after.config x × (q < length after.config.processes)
  held-made = (run-kept p outcomes room schedule).holding
