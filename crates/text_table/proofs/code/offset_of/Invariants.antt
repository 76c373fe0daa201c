-- `offset_of` adds the lengths up.
use Prim.Native.Nat.{◌*◌, ◌≤◌}
use mathlib.Core.Path.{◌≡◌}
use Rattle.text_code.specs.KeptCode.{offset_in}
use Rattle.text_table.proofs.code.offset_of.Given as goal

abbrev pub invariant-loop-i : goal.invariant-loop-i
invariant-loop-i l = (l.n ≡ offset_in l.lengths l.i) × (l.n ≤ 65536 * l.i)
