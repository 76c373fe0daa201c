-- `pop_all` goes on n times: as many values are off as it has gone on.
use Rattle.run_giving.specs.GivingCode.{popped_by}
use lib.ListN.{length}
use mathlib.Core.Path.{◌≡◌}
use Prim.Native.Nat.{◌≤◌}
use Rattle.run_giving.proofs.pop_all.Given as goal

abbrev pub invariant-loop : goal.invariant-loop
invariant-loop l = (l.counter ≤ l.n) × (l.w ≡ popped_by l.initial.w l.counter) × (length l.w ≡ length l.initial.w)
