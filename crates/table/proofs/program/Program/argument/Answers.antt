-- `argument` reads the second word of the instruction.
use Rattle.table.proofs.Start.{argument-there}
use Rattle.table.proofs.program.Program.argument.Goals as goal

pub returns : goal.returns
returns c = rw (← c.self.view_is) (argument-there _ _ c.args.i c.self.invariant.0 c.word_at.ensures.0)
