-- `op_at` reads the first word of an instruction.
use Rattle.table.specs.Table.{op_at}
use borrow.Author.Rules.{rules}
use Rattle.check_instructions.proofs.words.op_at.Goals as goal

pub returns : goal.returns
unfolding op_at
returns c = (cc, search rules)
