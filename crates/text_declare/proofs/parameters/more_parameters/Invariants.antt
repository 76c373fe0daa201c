-- `more_parameters`: what is entered from each comma on is entered from the first.
use Prim.Native.Nat.{ℕ, ◌-◌}
use mathlib.Core.Bool.{Bool}
use lib.ListN.{length}
use Rattle.text_declare.specs.Entered.{Tables, tables}
use Rattle.text_declare.specs.EnterCode.{RestEnters}
use Rattle.text_declare.proofs.parameters.more_parameters.Given as goal

abbrev pub invariant-loop-comma : goal.invariant-loop-comma
invariant-loop-comma l =
    (ok : Bool) (a : ℕ) (τ : Tables) → RestEnters l.text l.p.at (tables l.scope l.p.n l.row l.p.used) ok a τ
    → RestEnters l.text l.from (tables l.initial.scope l.n l.initial.row l.used) ok a τ

abbrev pub decreases-loop-comma : goal.decreases-loop-comma
decreases-loop-comma l = length l.text - l.p.at
