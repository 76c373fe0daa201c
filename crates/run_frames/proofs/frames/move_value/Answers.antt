-- `move_value` writes the new place before it empties the old one.
use Rattle.run_store.specs.StoreCode.{value_at, move_one}
use Rattle.run_frames.proofs.frames.move_value.Goals as goal

pub returns : goal.returns
unfolding move_one value_at
returns c = cc
