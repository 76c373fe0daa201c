-- `slot_kept` is question 3's test of one slot.
use Rattle.table.specs.Table.{slot_type}
use Rattle.table.specs.Questions.{slot_kept}
use Rattle.check_shape.proofs.rows.slot_kept.Goals as goal

pub returns : goal.returns
unfolding slot_kept slot_type
returns c = cc
