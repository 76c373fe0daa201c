-- `any_empty` goes down from the top: none of the values before number j is emptied.
use Rattle.run_store.specs.StoreCode.{empty_down}
use mathlib.Core.Bool.{false}
use mathlib.Core.Path.{◌≡◌}
use Prim.Native.Nat.{◌≤◌, ◌-◌}
use Rattle.run_store.proofs.blocks.any_empty.Given as goal

abbrev pub invariant-loop-j : goal.invariant-loop-j
invariant-loop-j l = (l.j ≤ l.n) × (empty_down l.w l.top l.j ≡ false)
