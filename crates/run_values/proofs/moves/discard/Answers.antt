-- `discard` empties the top value, and writes the head.
use Rattle.run_values.specs.ValuesCode.{drop_top}
use Rattle.run_values.proofs.moves.discard.Goals as goal

pub returns : goal.returns
unfolding drop_top
returns c = cc
