-- `row_of` is where the table has the row.
use Rattle.table.specs.Table.{row}
use Rattle.check_types.proofs.steps.row_of.Goals as goal

pub returns : goal.returns
unfolding row
returns c = cc
