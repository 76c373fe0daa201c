-- `more_types`: what is noted from each comma on is noted from the first.
use Prim.Native.Nat.{ℕ, ◌-◌}
use mathlib.Core.List.{List}
use lib.ListN.{length}
use Rattle.text_rows.specs.NotedCode.{RestNotes}
use Rattle.text_rows.proofs.parameters.more_types.Given as goal

abbrev pub invariant-loop-comma : goal.invariant-loop-comma
invariant-loop-comma l =
    (after : List ℕ) → RestNotes l.text l.at l.row after → RestNotes l.text l.from l.initial.row after

abbrev pub decreases-loop-comma : goal.decreases-loop-comma
decreases-loop-comma l = length l.text - l.at
