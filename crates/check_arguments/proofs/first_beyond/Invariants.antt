-- `first_beyond` searches the instructions: those below `i` keep their rule and have their targets marked, and
-- `o` is the owner of the one before `i`.
use Prim.Native.Nat.{◌-◌}
use mathlib.Core.Path.{◌≡◌}
use Rattle.lists.specs.Lists.{first_false}
use Rattle.table.specs.Questions.{instruction_kept}
use Rattle.check_instructions.specs.OwnersCode.{owner_at}
use Rattle.check_arguments.specs.MarksCode.{marked}
use Rattle.check_arguments.proofs.first_beyond.Given as goal

abbrev pub invariant-loop-i : goal.invariant-loop-i
invariant-loop-i l = (first_false (instruction_kept l.p) l.i ≡ l.i) × (l.o ≡ owner_at l.p (l.i - 1)) × (l.targets ≡ marked l.p l.i l.initial.targets)
