-- `run_entries` goes from one burst to the next: what stands before each is `Before`, and where it has stopped,
-- `BurstState`.
use Prim.Native.Nat.{◌+◌, ◌-◌, ◌≤◌}
use mathlib.Core.Path.{◌≡◌}
use lib.ListN.{length, drop}
use Rattle.run_schedule.proofs.Turning.{Before}
use Rattle.run_schedule.proofs.entries.run_entries.Given as goal

abbrev pub invariant-loop-p : goal.invariant-loop-p
invariant-loop-p l = Before l.p l.schedule l.outcomes l.room (drop 8256 l.initial.work) l.initial.trace l.work l.trace l.t l.lines l.used l.k l.known
    × (length l.work ≡ length l.initial.work) × (length l.trace ≡ length l.initial.trace) × (l.k ≤ length l.schedule)

abbrev pub decreases-loop-p : goal.decreases-loop-p
decreases-loop-p l = length l.schedule + 1 - l.k
