-- `discard_to` empties the top value.
use Rattle.run_cursor.proofs.Shapes.{discards-to}
use Rattle.run_cursor.proofs.moves.discard_to.Goals as goal

pub returns : goal.returns
returns c =
    discards-to c.requires.0 c.requires.1 c.args.to c.free.ensures
    (rw c.empty.ensures at c.write.ensures)
