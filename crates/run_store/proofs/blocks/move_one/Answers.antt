-- `move_one` writes the new place before it empties the old one.
use Rattle.run_store.specs.StoreCode.{move_one}
use Rattle.run_store.proofs.blocks.move_one.Goals as goal

pub returns : goal.returns
unfolding move_one
returns c = cc
