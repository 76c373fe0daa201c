-- `place_of` reads the head of the last frame.
use Rattle.run_parts.proofs.Returns.{place_read}
use Rattle.run_parts.proofs.readiness.place_of.Goals as goal

pub returns : goal.returns
returns c = place_read c.args.w.now c.get-frames.ensures c.get.ensures
