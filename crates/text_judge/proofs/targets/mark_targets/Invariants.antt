-- `mark_targets` marks the targets of the first `i` instructions.
use mathlib.Core.Path.{◌≡◌}
use Rattle.text_judge.specs.RowsCode.{marked_in}
use Rattle.text_judge.proofs.targets.mark_targets.Given as goal

abbrev pub invariant-loop-i : goal.invariant-loop-i
invariant-loop-i l = l.targets ≡ marked_in l.code l.i l.initial.targets
