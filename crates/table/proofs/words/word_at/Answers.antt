-- `word_at` reads a word of the table, or 0 past its end.
use native.Mathlib.Omega.{arith}
use Rattle.table.specs.Table.{word}
use Rattle.table.proofs.words.word_at.Goals as goal

pub returns : goal.returns
unfolding word
returns c = (c.at_or.ensures, rw c.at_or.ensures (omega (arith, c.type_inv.p c.args.at)))
