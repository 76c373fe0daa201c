-- `step` moves the place on by one, modulo 2^32.
use Rattle.run_store.specs.StoreCode.{stepped}
use Rattle.run_store.proofs.head.Head.step.Goals as goal

pub returns : goal.returns
unfolding stepped
returns c = cc
