-- `put_top` writes place and number of pending values of the top frame.
use Rattle.run_store.specs.StoreCode.{put_top, head_at}
use Rattle.run_store.proofs.head.put_top.Goals as goal

pub returns : goal.returns
unfolding put_top head_at
returns c = cc
