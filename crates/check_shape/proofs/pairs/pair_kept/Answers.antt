-- `pair_kept` is question 2's test of one method.
use Rattle.table.specs.Table.{offset_of, length_of}
use Rattle.check_shape.proofs.pairs.pair_kept.Goals as goal

pub returns : goal.returns
unfolding offset_of length_of
returns c = cc
