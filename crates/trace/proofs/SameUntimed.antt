-- Traces that are the same with their timing are the same with column 0 left out.
use Prim.Native.Nat.{ℕ}
use mathlib.Core.Path.{◌≡◌}
use mathlib.Core.Bool.{true}
use mathlib.Core.List.{List}
use Rattle.trace.specs.Trace.{lines_of, same_lines, same_untimed}
use Rattle.trace.proofs.SameMeans.{same-means, mean-all}

pub same-untimed : (xs ys : List ℕ) → same_lines xs ys ≡ true → same_untimed xs ys ≡ true
unfolding same_lines same_untimed
same-untimed xs ys e = mean-all (lines_of xs) (lines_of ys) (same-means (lines_of xs) (lines_of ys) e).lines
