-- `silent_entries` goes from entry to entry: what is left of the burst at each is what it was at the first.
use Prim.Native.Nat.{◌-◌}
use mathlib.Core.Path.{◌≡◌}
use lib.ListN.{length}
use Rattle.run_burst.specs.BurstCode.{burst_op}
use Rattle.run_burst.proofs.burst.silent_entries.Given as goal

abbrev pub invariant-loop-k : goal.invariant-loop-k
invariant-loop-k l = (burst_op l.p l.t l.schedule l.initial.work l.from l.initial.sure (length l.schedule - l.from) ≡ burst_op l.p l.t l.schedule l.work l.k l.sure
    (length l.schedule - l.k))
    × (length l.work ≡ length l.initial.work)
