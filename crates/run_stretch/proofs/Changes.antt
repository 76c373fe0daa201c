-- The step of a process that stands at CALL or RET.
use Prim.Native.Nat.{ℕ, ◌+◌, ◌*◌}
use mathlib.Core.Path.{◌≡◌, sym, ◌∙◌, ap, subst}
use mathlib.Core.Bool.{Bool}
use mathlib.Core.List.{List}
use Rattle.table.specs.Table.{word, methods}
use Rattle.table.proofs.Start.{op-there, argument-there}
use Rattle.run_store.specs.declared.head.Head.{Head}
use Rattle.run_store.specs.StoreCode.{head_of}
use Rattle.run_ops.specs.OpsCode.{call_op, ret_op, op_functions, act_op, step_op}
use Rattle.run_ops.proofs.Returns.{step-acts}
use Rattle.run_frames.specs.FramesCode.{Does}

module _ (p w : List ℕ) (start : ℕ) {h : Head} {op a : ℕ} (e : h ≡ head_of w) (run : h.status ≡ 1) (s : start ≡ 2 + 20 *
    methods p)
    (o : op ≡ word p (start + 2 * h.place)) (i : a ≡ word p (start + 2 * h.place + 1)) where
  acts : (n : ℕ) → op ≡ n → act_op p w h n a ≡ step_op p w
  acts n z =
      step-acts p w {h = h} {op = op} {a = a} e run (op-there p start h.place s o) (argument-there p start h.place s i)
      (ap (λ (x : ℕ). act_op p w h x a) (sym z))

  pub calls-step : {r : Bool} {w₁ : List ℕ} → op ≡ 12 → Does r (call_op p w h a) w w₁ → Does r (step_op p w) w w₁
  unfolding act_op op_functions
  calls-step z t = record { done = λ y. sym (acts 12 z) ∙ t.done y; left = t.left }

  pub returns-step : {r : Bool} {w₁ : List ℕ} → op ≡ 13 → Does r (ret_op p w h) w w₁ → Does r (step_op p w) w w₁
  unfolding act_op op_functions
  returns-step z t = record { done = λ y. sym (acts 13 z) ∙ t.done y; left = t.left }

-- from words that are the same
pub taken-from : (p : List ℕ) {r : Bool} {w w' w₁ : List ℕ} → w ≡ w' → Does r (step_op p w) w w₁ → Does r (step_op p w')
    w' w₁
taken-from p {r} {w₁ = w₁} e t = subst (λ (u : List ℕ). Does r (step_op p u) u w₁) e t
