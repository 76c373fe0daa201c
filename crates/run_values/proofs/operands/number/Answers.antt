-- `number` reads the second word of a value.
use Rattle.run_values.proofs.operands.number.Goals as goal

pub returns : goal.returns
returns c = cc
