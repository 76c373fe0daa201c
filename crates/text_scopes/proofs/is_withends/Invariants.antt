-- `is_withends`: what is answered from each block outwards is answered from the innermost.
use Prim.Native.Nat.{◌-◌, ◌≤◌}
use mathlib.Core.Bool.{Bool}
use lib.Seq.{slice}
use Rattle.text_scopes.proofs.ScopeLaws.{Answers}
use Rattle.text_scopes.proofs.is_withends.Given as goal

abbrev pub invariant-loop-blocks : goal.invariant-loop-blocks
invariant-loop-blocks l = let w = slice l.start l.end l.text in
    (1 ≤ l.n → 1 ≤ l.blocks) × ((b : Bool) → Answers l.text l.starts w l.blocks b → Answers l.text l.starts w l.n b)

abbrev pub decreases-loop-blocks : goal.decreases-loop-blocks
decreases-loop-blocks l = l.blocks
