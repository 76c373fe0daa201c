-- `move_down` goes down from the top: the values before number j are moved.
use Rattle.run_store.specs.StoreCode.{moved_down}
use lib.ListN.{length}
use mathlib.Core.Path.{◌≡◌}
use Prim.Native.Nat.{◌≤◌, ◌-◌}
use Rattle.run_store.proofs.blocks.move_down.Given as goal

abbrev pub invariant-loop-j : goal.invariant-loop-j
invariant-loop-j l = (l.j ≤ l.n) × (l.w ≡ moved_down l.initial.w l.top l.to l.n l.j) × (length l.w ≡ length l.initial.w)
