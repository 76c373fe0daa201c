-- `store_slot` writes the slot, and the head.
use Rattle.run_values.specs.ValuesCode.{in_slot}
use Rattle.run_values.proofs.moves.store_slot.Goals as goal

pub returns : goal.returns
unfolding in_slot
returns c = cc
