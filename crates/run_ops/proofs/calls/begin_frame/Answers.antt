-- `begin_frame` writes method and first instruction of the new frame, and the number of frames.
use Rattle.run_store.specs.StoreCode.{head_at}
use Rattle.run_ops.specs.OpsCode.{begun}
use Rattle.run_ops.proofs.calls.begin_frame.Goals as goal

pub returns : goal.returns
unfolding begun head_at
returns c = cc c.offset.ensures.0
