-- `of` reads the method's pair and finds its row.
use Rattle.table.specs.Table.{methods, row, offset_of, length_of, end_of}
use Rattle.check_instructions.specs.OwnersCode.{owner_in}
use Rattle.check_instructions.proofs.owner.Owner.of.Goals as goal

pub returns : goal.returns
unfolding owner_in methods row offset_of length_of end_of
returns c = cc
