-- `slot` is the layout's place of a slot.
use Rattle.run_store.specs.StoreCode.{slot_at}
use mathlib.Core.Path.{refl}
use Rattle.run_store.proofs.head.Head.slot.Goals as goal

pub returns : goal.returns
unfolding slot_at
returns c = refl
