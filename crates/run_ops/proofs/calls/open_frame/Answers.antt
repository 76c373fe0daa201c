-- `open_frame` moves the arguments, puts the caller's head back and begins the frame, in this order.
use Rattle.run_ops.specs.OpsCode.{opened, frame_at}
use Rattle.run_ops.proofs.calls.open_frame.Goals as goal

pub returns : goal.returns
unfolding opened frame_at
returns c = cc
