-- `head_of` reads the words of a head.
use mathlib.Core.Path.{refl}
use Rattle.run_store.specs.StoreCode.{head_of, head_at}
use Rattle.run_frames.proofs.frames.head_of.Goals as goal

pub returns : goal.returns
unfolding head_of head_at
returns c = refl
