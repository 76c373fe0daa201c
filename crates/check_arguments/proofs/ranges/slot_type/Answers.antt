-- `slot_type` reads within the method's row.
use Rattle.table.specs.Table.{word, row, slot_type}
use Rattle.check_instructions.proofs.Owners.{owner-row}
use Prim.Native.Nat.{◌+◌, ◌%◌}
use native.Mathlib.Omega.{arith}
use Rattle.check_arguments.proofs.ranges.slot_type.Goals as goal

pub overflow_add-at : goal.overflow_add-at
unfolding row
overflow_add-at c = omega (arith, owner-row _ _ _ c.requires.1, c.requires.0.methods-most)

pub overflow_add-at-2 : goal.overflow_add-at-2
unfolding row
overflow_add-at-2 c = omega (arith, owner-row _ _ _ c.requires.1, c.requires.0.methods-most)

pub offset_bounds-p-at : goal.offset_bounds-p-at
unfolding row
offset_bounds-p-at c = omega (arith, owner-row _ _ _ c.requires.1, c.requires.0.methods-most)

pub bounds-p-at : goal.bounds-p-at
unfolding row
bounds-p-at c = omega (arith, owner-row _ _ _ c.requires.1, c.requires.0.words)

pub overflow_cast-result : goal.overflow_cast-result
overflow_cast-result c = omega (arith, c.type_inv.p (c.args.o.row + 2 + c.args.a % 16))

pub returns : goal.returns
unfolding slot_type word
returns c = cc (owner-row _ _ _ c.requires.1)
