-- `operand` reads below the next free place.
use Rattle.run_transfer.proofs.forks.operand.Goals as goal

pub returns : goal.returns
returns c = cc
