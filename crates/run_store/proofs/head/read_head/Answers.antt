-- `read_head` reads the first three words of the part, and three of the top frame.
use Rattle.run_store.specs.StoreCode.{head_of, head_at}
use Rattle.run_store.proofs.head.read_head.Goals as goal

pub returns : goal.returns
unfolding head_of head_at
returns c = cc
