-- `more_parameters`: what is answered from each comma on is answered from the first.
use Prim.Native.Nat.{ℕ, ◌-◌}
use mathlib.Core.Bool.{Bool}
use lib.ListN.{length}
use lib.Seq.{slice}
use Rattle.text_types.specs.Answer.{declared_number}
use Rattle.text_types.specs.FoundCode.{RestSays}
use Rattle.text_types.specs.Found.{or_else}
use Rattle.text_types.proofs.parameters.more_parameters.Given as goal

abbrev pub invariant-loop-comma : goal.invariant-loop-comma
invariant-loop-comma l = let x = slice l.start l.end l.text in
    (ok : Bool) (a f : ℕ) → RestSays l.text x l.at ok a f → RestSays l.text x l.from ok a (or_else (declared_number l.found) f)

abbrev pub decreases-loop-comma : goal.decreases-loop-comma
decreases-loop-comma l = length l.text - l.at
