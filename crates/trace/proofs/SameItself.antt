-- A trace is the same as itself.
use Prim.Native.Nat.{ℕ}
use mathlib.Core.Path.{◌≡◌, refl}
use mathlib.Core.Bool.{true}
use mathlib.Core.List.{List}
use Rattle.trace.specs.Trace.{lines_of, same_lines}
use Rattle.trace.proofs.SameMeans.{means-same}

pub same-itself : (ws : List ℕ) → same_lines ws ws ≡ true
unfolding same_lines
same-itself ws = means-same (lines_of ws) (lines_of ws) (record { lines = refl; times = refl })
