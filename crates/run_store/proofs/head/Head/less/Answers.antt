-- `less` counts n pending values fewer, modulo 2^32.
use Rattle.run_store.specs.StoreCode.{less_by}
use Rattle.run_store.proofs.head.Head.less.Goals as goal

pub returns : goal.returns
unfolding less_by
returns c = cc
