-- What an op's function has done at its returns, from what its callees did and how its tests came out.
use Prim.Native.Nat.{ℕ}
use mathlib.Core.Path.{◌≡◌, refl, sym, ◌∙◌, ap, ap₂}
use mathlib.Core.Bool.{Bool, true, false, cond}
use mathlib.Core.List.{List}
use borrow.Author.Tests.{eq-eqb}
use Rattle.lists.proofs.Tests.{took}
use Rattle.table.specs.Table.{op_at, arg_at}
use Rattle.run_store.specs.declared.head.Head.{Head}
use Rattle.run_store.specs.StoreCode.{head_of}
use Rattle.run_values.specs.ValuesCode.{AfterStep}
use Rattle.run_ops.specs.OpsCode.{act_op, step_op}

-- a running process acts by the instruction at its place
pub step-acts : (p w : List ℕ) {h : Head} {op a : ℕ} {d : AfterStep} → h ≡ head_of w → h.status ≡ 1
    → op ≡ op_at p h.place → a ≡ arg_at p h.place → d ≡ act_op p w h op a → d ≡ step_op p w
unfolding step_op
step-acts p w {h} {op} {a} e r o i q =
    took _ _ _ refl (eq-eqb (head_of w).status 1 (ap (λ (g : Head). g.status) (sym e) ∙ r))
    (q
    ∙ ap₂ (λ (x y : ℕ). act_op p w h x y) o i
    ∙ ap (λ (g : Head). act_op p w g (op_at p g.place) (arg_at p g.place)) e)
