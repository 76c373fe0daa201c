-- `same_line` compares the five columns.
use mathlib.Core.Bool.{and_assoc}
use Rattle.trace.specs.Trace.{same_line}
use Rattle.trace.proofs.same.same_line.Goals as goal

pub returns : goal.returns
unfolding same_line
returns c = simp and_assoc
