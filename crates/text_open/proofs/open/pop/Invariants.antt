-- `pop`: what is left after the block is the same.
use mathlib.Core.Path.{◌≡◌}
use mathlib.Core.List.{List}
use Prim.Native.Nat.{ℕ}
use Rattle.text_open.specs.OpenCode.{open_of, leaving}
use Rattle.text_open.proofs.open.pop.Given as goal

abbrev pub invariant-loop-j : goal.invariant-loop-j
invariant-loop-j l = (text : List ℕ) → leaving l.level (open_of text l.words l.n) ≡ leaving l.level (open_of text l.words l.j)
