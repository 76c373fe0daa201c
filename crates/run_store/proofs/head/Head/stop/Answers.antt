-- `stop` writes status and fault.
use Rattle.run_store.specs.StoreCode.{stopped_head}
use Rattle.run_store.proofs.head.Head.stop.Goals as goal

pub returns : goal.returns
unfolding stopped_head
returns c = cc
