-- `start` writes every field.
use Rattle.run_store.specs.StoreCode.{started_head}
use Rattle.run_store.proofs.head.Head.start.Goals as goal

pub returns : goal.returns
unfolding started_head
returns c = cc
