-- `end_of` adds a method's length to its offset.
use Rattle.table.specs.Table.{offset_of, length_of, end_of}
use Rattle.check_shape.proofs.pairs.end_of.Goals as goal

pub returns : goal.returns
unfolding end_of offset_of length_of
returns c = cc
