-- `put_code` goes through the instructions.
use Rattle.text_put.specs.TableCode.{Writes, called_at, code_to}
use Rattle.text_put.proofs.code.put_code.Given as goal

abbrev pub invariant-loop-k : goal.invariant-loop-k
invariant-loop-k l = Writes l.initial.table l.at (code_to (called_at l.methods.text.now l.main) l.code l.k) l.table l.i
