-- The answer does not depend on which of two traces comes first.
use Prim.Native.Nat.{ℕ}
use mathlib.Core.Path.{◌≡◌, sym}
use mathlib.Core.Bool.{true}
use mathlib.Core.List.{List}
use Rattle.machine.specs.State.{Line}
use Rattle.trace.specs.Trace.{lines_of, same_timed, same_lines}
use Rattle.trace.proofs.Gaps.{both_ways}
use Rattle.trace.proofs.SameMeans.{same-means, means-same}

symmetric : (ls ms : List Line) → same_timed ls ms ≡ true → same_timed ms ls ≡ true
symmetric ls ms e =
    let s = same-means ls ms e in
    means-same ms ls (record { lines = sym s.lines; times = sym s.times })

pub same-symmetric : (xs ys : List ℕ) → same_lines xs ys ≡ same_lines ys xs
unfolding same_lines
same-symmetric xs ys =
    both_ways (same_lines xs ys) (same_lines ys xs) (symmetric (lines_of xs) (lines_of ys))
    (symmetric (lines_of ys) (lines_of xs))
