-- `method_params`: what is answered from each argument on is answered from the first.
use Prim.Native.Nat.{ℕ, ◌-◌, ◌≤◌}
use mathlib.Core.Bool.{Bool}
use lib.ListN.{length}
use Rattle.text_parse.specs.Grammar.{Scopes}
use Rattle.text_scopes.specs.OpenCode.{Opened}
use Rattle.text_pass.proofs.ArgumentLaws.{ParamsSay}
use Rattle.text_pass.proofs.expression.method_params.Given as goal

abbrev pub invariant-loop-e : goal.invariant-loop-e
invariant-loop-e l = (scopes : Scopes) → Opened l.text l.starts l.n scopes → l.n ≤ 32 → (ok : Bool) (r : ℕ) → ParamsSay scopes l.text l.at ok r
    → ParamsSay scopes l.text l.from ok r

abbrev pub decreases-loop-e : goal.decreases-loop-e
decreases-loop-e l = length l.text - l.at
