-- `put_others` goes through the methods in text order.
use Prim.Native.Nat.{◌*◌, ◌≤◌, ◌<◌}
use mathlib.Core.Path.{◌≡◌}
use lib.ListN.{length}
use Rattle.text.specs.Tree.{Program}
use Rattle.text_code.specs.KeptCode.{offset_in, CodeKept}
use Rattle.text_table.specs.WrittenCode.{Writing, Lengths, OthersPut}
use Rattle.text_table.proofs.code.put_others.Given as goal

abbrev pub invariant-loop-k : goal.invariant-loop-k
invariant-loop-k l = (l.i < 30000) × (l.from ≡ offset_in l.lengths l.k) × (l.from ≤ 65536 * l.k) × (length l.table ≡ length l.initial.table)
    × ((ns : Program) → Writing l.methods.text.now ns l.main → l.count ≡ length ns → Lengths ns l.lengths
    → CodeKept ns l.count l.lengths l.kept → l.at ≤ 9000 → OthersPut ns l.k l.at l.initial.table l.table l.i)
