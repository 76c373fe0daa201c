-- `slot_type` looks the slot's type up in the row.
use Rattle.table.specs.Table.{row, slot_type}
use Rattle.check_instructions.proofs.Owners.{owner-row}
use native.Mathlib.Omega.{arith}
use Rattle.check_types.proofs.steps.slot_type.Goals as goal

pub overflow_add-o : goal.overflow_add-o
unfolding row
overflow_add-o c =
    let pre = c.requires in
    omega (arith, owner-row _ _ _ pre.owner)

pub overflow_add-o-2 : goal.overflow_add-o-2
unfolding row
overflow_add-o-2 c =
    let pre = c.requires in
    omega (arith, owner-row _ _ _ pre.owner)

pub returns : goal.returns
unfolding slot_type
returns c =
    let pre = c.requires in
    cc (owner-row _ _ _ pre.owner)
