-- Steps of one process, one after the other. These definitions follow the code.
use Rattle.std.specs.Prelude.{ℕ, ◌+◌, ◌<◌, ◌≤◌, ◌≡◌, List, get_or, length}
use Rattle.std.specs.declared.ops.ControlFlow.{ControlFlow}
use Rattle.std.specs.ControlFlow.{MatchControlFlow}
use Rattle.table.specs.Table.{op_at, arg_at}
use Rattle.table.proofs.Owners.{Inside}
use Rattle.run_values.specs.ValuesCode.{after_step}
use Rattle.run_values.specs.declared.steps.StepResult.TheVariants.{WentOn}
use Rattle.run_ops.specs.OpsCode.{step_op}

-- instruction i of method m, with its op and its argument
pub record At (p : List ℕ) (m i op a : ℕ) : Type 0 where
  pub inside : Inside p m i
  pub is-op : op_at p i ≡ op
  pub is-argument : arg_at p i ≡ a

-- entry k names process n, whose top frame stands at place i of method m
pub record Halts (p schedule : List ℕ) (n m k i : ℕ) : Type 0 where
  pub ahead : k < length schedule
  pub names : get_or schedule k 0 ≡ n
  pub inside : Inside p m i

-- the entries from `from` on up to the last index all name process n, and its words w₀ come to the last ones by plain
-- steps
pub data PlainSteps (p schedule : List ℕ) (n from : ℕ) (w₀ : List ℕ) : ℕ → List ℕ → Type 0 where
  begins : PlainSteps p schedule n from w₀ from w₀
  goes_on : {k : ℕ} {w w' : List ℕ} → PlainSteps p schedule n from w₀ k w → k < length schedule
      → get_or schedule k 0 ≡ n → length w ≡ 512 → length w' ≡ 512
      → step_op p w ≡ after_step WentOn w' → PlainSteps p schedule n from w₀ (k + 1) w'

-- the entries of one frame are plain steps up to index k: it goes on in the next frame, some entry having been passed,
-- or ends there
abbrev pub FrameRun : (p schedule : List ℕ) (n from : ℕ) (w w' : List ℕ) → ControlFlow ℕ ℕ → Type 0
FrameRun p schedule n from w w' r =
    MatchControlFlow r (λ k. PlainSteps p schedule n from w k w' × (k ≤ length schedule) × (from < k))
    (λ k. PlainSteps p schedule n from w k w' × (k ≤ length schedule))
