-- `replace` writes the value in place of the top one, and the head.
use Rattle.run_values.specs.ValuesCode.{on_top}
use Rattle.run_values.proofs.moves.replace.Goals as goal

pub returns : goal.returns
unfolding on_top
returns c = cc
