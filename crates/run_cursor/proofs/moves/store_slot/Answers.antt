-- `store_slot` writes a slot.
use Rattle.run_cursor.proofs.Shapes.{stores}
use Rattle.run_cursor.proofs.moves.store_slot.Goals as goal

pub returns : goal.returns
returns c = stores c.requires.0 c.requires.1 c.args.a c.args.v c.slot.ensures c.write.ensures
