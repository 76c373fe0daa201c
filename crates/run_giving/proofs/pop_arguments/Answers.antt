-- `pop_arguments` takes the arguments off, and then the frame moves on.
use Rattle.run_giving.specs.GivingCode.{arguments_popped, stayed}
use Rattle.run_giving.proofs.pop_arguments.Goals as goal

pub returns : goal.returns
unfolding arguments_popped stayed
returns c = cc
