-- `give_qubit` goes through the values eight at a time: of those before number 8 j, the lost ones are emptied.
use Rattle.run_store.specs.StoreCode.{emptied_by}
use lib.ListN.{length}
use mathlib.Core.Path.{◌≡◌}
use Prim.Native.Nat.{◌≤◌, ◌*◌, ◌-◌}
use Rattle.run_store.proofs.giving.give_qubit.Given as goal

abbrev pub invariant-loop-j : goal.invariant-loop-j
invariant-loop-j l = (l.j ≤ l.n) × (l.w ≡ emptied_by l.initial.w (record { tag = 3; number = l.number }) (8 * l.j)) × (length l.w ≡ length l.initial.w)
