-- `put_pairs` goes through the methods in the table's order.
use Prim.Native.Nat.{◌*◌, ◌≤◌}
use mathlib.Core.Path.{◌≡◌}
use Rattle.text_put.specs.TableCode.{Writes, offset_to, pairs_to}
use Rattle.text_put.proofs.words.put_pairs.Given as goal

abbrev pub invariant-loop-k : goal.invariant-loop-k
invariant-loop-k l = (l.offset ≤ 65536 * l.k) × (l.offset ≡ offset_to l.lengths l.main l.k)
    × Writes l.initial.table l.at (pairs_to l.lengths l.main l.k) l.table l.i
