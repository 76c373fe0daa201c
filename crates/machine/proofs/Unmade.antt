-- A process that is not made does nothing.
use Prim.Native.Nat.{ℕ, ◌≤◌}
use mathlib.Core.Path.{◌≡◌, ap}
use mathlib.Core.List.{List}
use lib.ListN.{length}
use Rattle.machine.specs.State.{Process, State}
use Rattle.machine.specs.Act.{idle, at_frames, by_status, act_of}
use Rattle.machine.proofs.Giving.{process-beyond}

pub unmade-idle : (p outcomes : List ℕ) (s : State) (q : ℕ) → length s.config.processes ≤ q
    → act_of p outcomes s q ≡ idle
unfolding act_of by_status
unmade-idle p outcomes s q h =
    ap (λ (pr : Process). by_status pr.status (at_frames p outcomes s pr.frames)) (process-beyond s.config q h)
