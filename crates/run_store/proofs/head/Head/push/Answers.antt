-- `push` counts one pending value more, modulo 2^32.
use Rattle.run_store.specs.StoreCode.{pushed}
use Rattle.run_store.proofs.head.Head.push.Goals as goal

pub returns : goal.returns
unfolding pushed
returns c = cc
