-- `declarations`: what is entered from each declaration on is entered from the first.
use Prim.Native.Nat.{ℕ, ◌-◌}
use mathlib.Core.Bool.{Bool}
use lib.ListN.{length}
use Rattle.text_declare.specs.Entered.{Tables, tables}
use Rattle.text_declare.specs.EnterCode.{DeclarationsEnter}
use Rattle.text_declare.proofs.declarations.declarations.Given as goal

abbrev pub invariant-loop-scope : goal.invariant-loop-scope
invariant-loop-scope l =
    (ok : Bool) (a : ℕ) (τ : Tables) → DeclarationsEnter l.text l.d.at (tables l.scope l.d.n l.row l.d.used) ok a τ
    → DeclarationsEnter l.text l.from (tables l.initial.scope l.n l.initial.row l.used) ok a τ

abbrev pub decreases-loop-scope : goal.decreases-loop-scope
decreases-loop-scope l = length l.text - l.d.at
