-- `finish` leaves no frame.
use Rattle.run_store.specs.StoreCode.{finished_head}
use Rattle.run_store.proofs.head.Head.finish.Goals as goal

pub returns : goal.returns
unfolding finished_head
returns c = cc
