-- `update_holders` goes through the lines: table and words are what those before line i say.
use Prim.Native.Nat.{◌-◌}
use mathlib.Core.Path.{◌≡◌}
use lib.ListN.{length}
use Rattle.run_holders.specs.HoldersCode.{holders_after_lines, changed_from}
use Rattle.run_holders.specs.StoredCode.{stored_after_lines}
use Rattle.run_holders.proofs.update.update_holders.Given as goal

abbrev pub invariant-loop-i : goal.invariant-loop-i
invariant-loop-i l = (l.t ≡ holders_after_lines l.initial.t l.trace l.from (l.i - l.from))
    × (l.work ≡ stored_after_lines l.initial.work l.trace l.from (l.i - l.from))
    × (length l.work ≡ length l.initial.work)
    × (l.changed ≡ changed_from l.trace l.from (l.i - l.from))
