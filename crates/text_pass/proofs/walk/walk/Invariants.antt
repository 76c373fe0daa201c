-- `walk`: at each token the pass stands where the pass over the tokens does.
use mathlib.Core.Path.{◌≡◌}
use Prim.Native.Nat.{◌-◌, ◌≤◌}
use lib.ListN.{length}
use Rattle.text_parse.specs.Grammar.{Scopes}
use Rattle.text_scopes.specs.OpenCode.{Opened}
use Rattle.text_pass.specs.WalkCode.{Standing}
use Rattle.text_pass.proofs.walk.walk.Given as goal

abbrev pub invariant-loop-low : goal.invariant-loop-low
invariant-loop-low l = (length l.counts ≡ length l.initial.counts) × (length l.brackets ≡ length l.initial.counts) × (2 ≤ length l.initial.counts)
    × ((scopes : Scopes) → Opened l.text l.starts l.n scopes → l.n ≤ 32
    → Standing scopes l.text l.from l.at l.phase (length l.initial.counts) l.low l.depth l.counts l.brackets)

abbrev pub decreases-loop-low : goal.decreases-loop-low
decreases-loop-low l = length l.text - l.at
