-- `to` writes the place.
use Rattle.run_store.specs.StoreCode.{moved_to}
use Rattle.run_store.proofs.head.Head.to.Goals as goal

pub returns : goal.returns
unfolding moved_to
returns c = cc
