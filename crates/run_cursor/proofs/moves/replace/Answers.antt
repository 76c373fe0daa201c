-- `replace` writes the top value.
use Rattle.run_cursor.proofs.Shapes.{replaces}
use Rattle.run_cursor.proofs.moves.replace.Goals as goal

pub returns : goal.returns
returns c = replaces c.requires.0 c.requires.1 c.requires.2 c.args.v c.free.ensures c.write.ensures
