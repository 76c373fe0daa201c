-- `clear_within` goes up: the words before number i are 0.
use Rattle.run_store.specs.StoreCode.{cleared_from}
use lib.ListN.{length}
use mathlib.Core.Path.{◌≡◌}
use Prim.Native.Nat.{◌≤◌, ◌-◌}
use Rattle.run_store.proofs.blocks.clear_within.Given as goal

abbrev pub invariant-loop-i : goal.invariant-loop-i
invariant-loop-i l = (l.i ≤ l.n) × (l.w ≡ cleared_from l.initial.w l.from l.i) × (length l.w ≡ length l.initial.w)
