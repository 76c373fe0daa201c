-- `replay` comes to the same state as the pass.
use mathlib.Core.Path.{◌≡◌}
use Prim.Native.Nat.{◌-◌, ◌≤◌}
use lib.ListN.{length}
use Rattle.text_parse.specs.Grammar.{Scopes}
use Rattle.text_scopes.specs.OpenCode.{Opened}
use Rattle.text_pass.specs.WalkCode.{State, begins, Leads}
use Rattle.text_pass.proofs.StandLaws.{Returning}
use Rattle.text_pass.proofs.walk.replay.Given as goal

abbrev pub invariant-loop-at : goal.invariant-loop-at
invariant-loop-at l = (length l.counts ≡ length l.initial.counts) × (length l.brackets ≡ length l.initial.counts)
    × ((scopes : Scopes) → Opened l.text l.starts l.n scopes → l.n ≤ 32 → (q : State) → Leads scopes l.text (begins l.from) q
    → q.at ≡ l.until → Returning scopes l.text l.from q l.at l.phase (length l.initial.counts) l.low l.depth l.counts l.brackets)

abbrev pub decreases-loop-at : goal.decreases-loop-at
decreases-loop-at l = l.until - l.at
