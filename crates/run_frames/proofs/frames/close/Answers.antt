-- `close` clears the frame's values and its head, and counts one frame fewer.
use Rattle.run_store.specs.StoreCode.{head_at}
use Rattle.run_ops.specs.OpsCode.{closed, frame_at}
use Rattle.run_frames.proofs.frames.close.Goals as goal

pub returns : goal.returns
unfolding closed frame_at head_at
returns c = cc
