-- `op` reads the first word of the instruction.
use Rattle.table.proofs.Start.{op-there}
use Rattle.table.proofs.program.Program.op.Goals as goal

pub returns : goal.returns
returns c = rw (← c.self.view_is) (op-there _ _ c.args.i c.self.invariant.0 c.word_at.ensures.0)
