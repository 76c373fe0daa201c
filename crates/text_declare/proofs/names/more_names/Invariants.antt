-- `more_names`: what is entered from each comma on is entered from the first.
use Prim.Native.Nat.{ℕ, ◌-◌}
use mathlib.Core.Bool.{Bool}
use lib.ListN.{length}
use Rattle.text_declare.specs.Entered.{Tables, tables}
use Rattle.text_declare.specs.EnterCode.{NamesEnter}
use Rattle.text_declare.proofs.names.more_names.Given as goal

abbrev pub invariant-loop-comma : goal.invariant-loop-comma
invariant-loop-comma l =
    (ok : Bool) (a : ℕ) (τ : Tables) → NamesEnter l.text l.e.at l.code (tables l.scope l.e.n l.row l.e.used) ok a τ
    → NamesEnter l.text l.from l.code (tables l.initial.scope l.n l.initial.row l.used) ok a τ

abbrev pub decreases-loop-comma : goal.decreases-loop-comma
decreases-loop-comma l = length l.text - l.e.at
