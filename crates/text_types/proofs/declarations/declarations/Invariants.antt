-- `declarations`: what is answered from each declaration on is answered from the first.
use Prim.Native.Nat.{ℕ, ◌-◌}
use mathlib.Core.Bool.{Bool}
use lib.ListN.{length}
use lib.Seq.{slice}
use Rattle.text_types.specs.Found.{or_else}
use Rattle.text_types.specs.Answer.{declared_number}
use Rattle.text_types.specs.FoundCode.{DeclarationsSay}
use Rattle.text_types.proofs.declarations.declarations.Given as goal

abbrev pub invariant-loop-at : goal.invariant-loop-at
invariant-loop-at l = let x = slice l.start l.end l.text in
    (ok : Bool) (a f : ℕ) → DeclarationsSay l.text x l.at ok a f → DeclarationsSay l.text x l.from ok a (or_else (declared_number l.found) f)

abbrev pub decreases-loop-at : goal.decreases-loop-at
decreases-loop-at l = length l.text - l.at
