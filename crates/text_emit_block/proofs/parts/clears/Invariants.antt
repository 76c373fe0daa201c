-- `clears`: a slot more is emptied each time.
use mathlib.Core.Path.{◌≡◌}
use lib.ListN.{length}
use Rattle.text_emit.specs.Reached.{there}
use Rattle.text_emit_block.proofs.ClearLaws.{UpTo}
use Rattle.text_emit_block.proofs.parts.clears.Given as goal

abbrev pub invariant-loop-i : goal.invariant-loop-i
invariant-loop-i l = (length l.code ≡ length l.initial.code)
    × UpTo l.from l.i (there l.initial.r) l.initial.code (there l.r) l.code
