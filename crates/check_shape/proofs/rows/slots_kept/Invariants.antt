-- `slots_kept` looks at the 16 slots: `kept` says whether those below `s` keep their rule.
use mathlib.Core.Path.{◌≡◌}
use Rattle.lists.specs.Lists.{all_below}
use Rattle.table.specs.Questions.{slot_kept}
use Rattle.check_shape.proofs.rows.slots_kept.Given as goal

abbrev pub invariant-loop-s : goal.invariant-loop-s
invariant-loop-s l = l.kept ≡ all_below (slot_kept l.p l.m) l.s
