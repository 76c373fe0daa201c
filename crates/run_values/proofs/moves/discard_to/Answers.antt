-- `discard_to` empties the top value and writes the head.
use Rattle.run_values.specs.ValuesCode.{drop_to}
use Rattle.run_values.proofs.moves.discard_to.Goals as goal

pub returns : goal.returns
unfolding drop_to
returns c = cc
