-- `start` is what the invariant says.
use Rattle.table.proofs.program.Program.start.Goals as goal

pub returns : goal.returns
returns c = rw (← c.self.view_is) c.self.invariant.0
