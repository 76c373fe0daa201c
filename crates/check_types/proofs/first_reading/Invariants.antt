-- `first_reading` searches the instructions: those below `i` keep the rules, `o` is the owner of the one before `i`,
-- and `q` the types pending before `i`.
use Prim.Native.Nat.{◌-◌}
use mathlib.Core.Path.{◌≡◌}
use Rattle.lists.specs.Lists.{first_false}
use Rattle.table.specs.Reading.{before, reads}
use Rattle.check_instructions.specs.OwnersCode.{owner_at}
use Rattle.check_types.specs.PendingCode.{types_of}
use Rattle.check_types.proofs.first_reading.Given as goal

abbrev pub invariant-loop-i : goal.invariant-loop-i
invariant-loop-i l = record {
  passed : first_false (reads l.p) l.i ≡ l.i;
  owner : l.o ≡ owner_at l.p (l.i - 1);
  types : types_of l.q ≡ before l.p l.i;
}
