-- `put_status` writes the first three words of the part.
use Rattle.run_store.specs.StoreCode.{put_status}
use Rattle.run_store.proofs.head.put_status.Goals as goal

pub returns : goal.returns
unfolding put_status
returns c = cc
