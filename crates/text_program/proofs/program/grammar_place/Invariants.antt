-- `grammar_place`: what is answered from each method on is answered from the first.
use Prim.Native.Nat.{ℕ, ◌-◌}
use mathlib.Core.Bool.{Bool}
use lib.ListN.{length}
use Rattle.text_program.proofs.ProgramLaws.{From}
use Rattle.text_program.proofs.program.grammar_place.Given as goal

abbrev pub invariant-loop-at : goal.invariant-loop-at
invariant-loop-at l = (ok : Bool) (a : ℕ) → From l.text l.at ok a → From l.text 0 ok a

abbrev pub decreases-loop-at : goal.decreases-loop-at
decreases-loop-at l = length l.text - l.at
