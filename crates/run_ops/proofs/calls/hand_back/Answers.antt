-- `hand_back` puts the value on the frame that is at work now.
use Rattle.run_ops.specs.OpsCode.{handed}
use Rattle.run_ops.proofs.calls.hand_back.Goals as goal

pub returns : goal.returns
unfolding handed
returns c = cc
