-- `pop` counts one pending value fewer, modulo 2^32.
use Rattle.run_store.specs.StoreCode.{popped}
use Rattle.run_store.proofs.head.Head.pop.Goals as goal

pub returns : goal.returns
unfolding popped
returns c = cc
