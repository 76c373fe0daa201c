-- `word_within` reads a word of the table.
use mathlib.Core.Path.{refl}
use Rattle.table.specs.Table.{word}
use native.Mathlib.Omega.{arith}
use Rattle.check_instructions.proofs.words.word_within.Goals as goal

pub overflow_cast-result : goal.overflow_cast-result
overflow_cast-result c = omega (arith, c.type_inv.p c.args.at)

pub returns : goal.returns
unfolding word
returns c = (refl, omega (arith, c.type_inv.p c.args.at))
