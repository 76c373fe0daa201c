-- `put_rows` goes through the methods in the table's order.
use Rattle.text_put.specs.TableCode.{Writes, rows_to}
use Rattle.text_put.proofs.words.put_rows.Given as goal

abbrev pub invariant-loop-k : goal.invariant-loop-k
invariant-loop-k l = Writes l.initial.table l.at (rows_to l.rows l.main l.k) l.table l.i
