-- `hand_to` puts the value on the frame that is at work now.
use mathlib.Core.Path.{◌∙◌}
use Rattle.run_ops.specs.OpsCode.{handed}
use Rattle.run_frames.proofs.Calls.{pushed-frames}
use Rattle.run_frames.proofs.frames.hand_to.Goals as goal

pub put_back-requires : goal.put_back-requires
put_back-requires c = (
  c.put_value.auto.w ∙
      c.requires.0,
  pushed-frames
      c.args.w.now
      c.head_of-h.ensures c.push.ensures
      c.requires.1,
)

pub returns : goal.returns
unfolding handed
returns c = cc
