-- `of` reads the number of methods once.
use native.Mathlib.Omega.{arith}
use Rattle.table.specs.Table.{methods}
use Rattle.table.proofs.program.Program.of.Goals as goal

pub invariant_of-result : goal.invariant_of-result
unfolding methods
invariant_of-result c = (omega (arith, c.word_at.ensures.0), omega (arith, c.word_at.ensures.1))
