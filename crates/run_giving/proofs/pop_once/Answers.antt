-- `pop_once` takes the top value off; the frame stays where it stands.
use Rattle.run_giving.specs.GivingCode.{popped_once}
use Rattle.run_giving.proofs.pop_once.Goals as goal

pub returns : goal.returns
unfolding popped_once
returns c = cc
