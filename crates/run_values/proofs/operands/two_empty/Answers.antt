-- `two_empty` looks at the two operands.
use Rattle.run_values.specs.ValuesCode.{empty_two}
use Rattle.run_values.proofs.operands.two_empty.Goals as goal

pub returns : goal.returns
unfolding empty_two
returns c = cc
