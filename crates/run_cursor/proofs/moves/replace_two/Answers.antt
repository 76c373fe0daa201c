-- `replace_two` empties the top value and writes the one below.
use Rattle.run_cursor.proofs.Shapes.{covers}
use Rattle.run_cursor.proofs.moves.replace_two.Goals as goal

pub returns : goal.returns
returns c =
    covers c.requires.0 c.requires.1 c.requires.2 c.args.v c.free-at.ensures
    (rw c.empty.ensures at c.write.ensures) c.write-2.ensures
