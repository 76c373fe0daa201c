-- Traces that are the same as one trace are the same as each other.
use Prim.Native.Nat.{ℕ}
use mathlib.Core.Path.{◌≡◌, ◌∙◌}
use mathlib.Core.Bool.{true}
use mathlib.Core.List.{List}
use Rattle.trace.specs.Trace.{lines_of, same_lines}
use Rattle.trace.proofs.SameMeans.{same-means, means-same}

pub same-transitive : (xs ys zs : List ℕ) → same_lines xs ys ≡ true → same_lines ys zs ≡ true → same_lines xs zs ≡ true
unfolding same_lines
same-transitive xs ys zs e f =
    let s = same-means (lines_of xs) (lines_of ys) e in
    let t = same-means (lines_of ys) (lines_of zs) f in
    means-same (lines_of xs) (lines_of zs) (record { lines = s.lines ∙ t.lines; times = s.times ∙ t.times })
