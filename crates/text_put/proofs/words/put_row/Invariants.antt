-- `put_row` copies word by word.
use Prim.Native.Nat.{◌+◌}
use mathlib.Core.Path.{◌≡◌}
use lib.Seq.{slice}
use Rattle.text_put.specs.TableCode.{Writes}
use Rattle.text_put.proofs.words.put_row.Given as goal

abbrev pub invariant-loop-k : goal.invariant-loop-k
invariant-loop-k l = (l.i ≡ l.at + l.k) × Writes l.initial.table l.at (slice l.from (l.from + l.k) l.rows) l.table l.i
