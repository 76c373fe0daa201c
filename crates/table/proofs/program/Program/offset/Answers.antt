-- `offset` reads the first word of the method's pair.
use Rattle.table.specs.Table.{offset_of}
use Rattle.table.proofs.program.Program.offset.Goals as goal

pub returns : goal.returns
unfolding offset_of
returns c = rw (← c.self.view_is) c.word_at.ensures
