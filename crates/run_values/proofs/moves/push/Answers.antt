-- `push` writes the value at the free place, and the head.
use Rattle.run_values.specs.ValuesCode.{push_on}
use Rattle.run_values.proofs.moves.push.Goals as goal

pub returns : goal.returns
unfolding push_on
returns c = cc
