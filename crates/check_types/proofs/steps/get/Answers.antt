-- `get` puts the slot's type on.
use native.Mathlib.Omega.{arith}
use Rattle.check_types.proofs.steps.get.Goals as goal

pub on-requires : goal.on-requires
on-requires c =
    let pre = c.requires in
    omega (arith, pre.small, c.slot_type.ensures)
