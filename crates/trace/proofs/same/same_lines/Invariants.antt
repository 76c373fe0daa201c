-- `same_lines` goes through the lines: what is left from index i on decides.
use mathlib.Core.Path.{◌≡◌}
use lib.ListN.{drop}
use Rattle.trace.specs.Trace.{lines_of, same_timed}
use Rattle.trace.proofs.same.same_lines.Given as goal

abbrev pub invariant-loop-i : goal.invariant-loop-i
invariant-loop-i l =
    same_timed (lines_of l.a) (lines_of l.b) ≡ same_timed (drop l.i (lines_of l.a)) (drop l.i (lines_of l.b))
