-- `put` wants the slot's type on top, and leaves it there.
use native.Mathlib.Omega.{arith}
use Rattle.check_types.proofs.steps.put.Goals as goal

pub one-requires : goal.one-requires
one-requires c =
    let pre = c.requires in
    (omega (arith, pre.used, c.slot_type-t.ensures), omega (arith, pre.small, c.slot_type-t.ensures))
