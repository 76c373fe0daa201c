-- `run_frames` goes from frame to frame.
use Prim.Native.Nat.{◌≤◌, ◌-◌}
use mathlib.Core.Path.{◌≡◌}
use lib.ListN.{length}
use Rattle.run_stretch.specs.StretchCode.{PlainSteps}
use Rattle.run_stretch.proofs.stretch.run_frames.Given as goal

abbrev pub invariant-loop-next : goal.invariant-loop-next
invariant-loop-next l = (l.k ≤ length l.schedule) × PlainSteps l.p l.schedule l.n l.from l.initial.w l.k l.w
    × (length l.w ≡ length l.initial.w)

abbrev pub decreases-loop-next : goal.decreases-loop-next
decreases-loop-next l = length l.schedule - l.k
