-- `give_away` goes through the values: of those before number j, the lost ones are emptied.
use Rattle.run_store.specs.StoreCode.{emptied_by}
use lib.ListN.{length}
use mathlib.Core.Path.{◌≡◌}
use Prim.Native.Nat.{◌≤◌, ◌-◌}
use Rattle.run_store.proofs.giving.give_away.Given as goal

abbrev pub invariant-loop-j : goal.invariant-loop-j
invariant-loop-j l = (l.j ≤ l.n) × (l.w ≡ emptied_by l.initial.w l.t l.j) × (length l.w ≡ length l.initial.w)
