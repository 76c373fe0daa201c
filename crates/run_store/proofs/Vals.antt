-- Values as the store has them.
use Rattle.machine.specs.Value.{Value}
use Rattle.layout.proofs.Frames.{tag_of, number_of}
use Rattle.run_store.specs.declared.values.Val.{Val}

unfoldable pub val_of : Value → Val
val_of v = record { tag = tag_of v; number = number_of v }
