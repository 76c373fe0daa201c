-- `replace_two` empties the top value and writes over the one below.
use Rattle.run_values.specs.ValuesCode.{over_two}
use Rattle.run_values.proofs.moves.replace_two.Goals as goal

pub returns : goal.returns
unfolding over_two
returns c = cc
