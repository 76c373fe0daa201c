-- `arg_at` reads the second word of an instruction.
use Rattle.table.specs.Table.{arg_at}
use borrow.Author.Rules.{rules}
use Rattle.check_instructions.proofs.words.arg_at.Goals as goal

pub returns : goal.returns
unfolding arg_at
returns c = (cc, search rules)
