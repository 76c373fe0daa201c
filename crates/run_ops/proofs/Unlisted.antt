-- A number that is none of the ops' is no op.
use Prim.Native.Nat.{ℕ, zero, suc, ◌≤◌, ◌<◌}
use mathlib.Core.Path.{◌≡◌, refl}
use mathlib.Core.Logic.{⊎_elim}
use mathlib.Core.List.{List}
use native.Mathlib.Omega.{arith}
use lib.Dec.{T, leb, eqb, leb→le}
use borrow.Author.Tests.{eqb-true, eqb-false}
use Rattle.lists.proofs.Tests.{decide}
use Rattle.lists.proofs.Numbers.{by_number, ◌▹◌}
use Rattle.run_store.specs.declared.head.Head.{Head}
use Rattle.run_values.specs.ValuesCode.{after_step}
use Rattle.run_values.specs.declared.steps.StepResult.TheVariants.{NotRunning}
use Rattle.run_ops.specs.OpsCode.{no_op, op_functions, act_op}

-- op is none of 1 to n, as a match that has passed them all says it
abbrev PastAll : ℕ → ℕ → Type 0
PastAll op zero = Unit {0}
PastAll op (suc n) = PastAll op n × (op ≡ suc n → ⊥)

past-none : (op n : ℕ) → PastAll op n → 0 < op → op ≤ n → ⊥
past-none op zero o l h = omega (arith, l, h)
past-none op (suc n) o l h =
    ⊎_elim (λ t. o.1 (eqb-true op (suc n) t))
    (λ t. past-none op n o.0 l (omega (arith, h, eqb-false op (suc n) t)))
    (decide (eqb op (suc n)))

no : {A : Type 0} (op : ℕ) → T (leb (suc op) 23) → PastAll (suc op) 23 → A
no op t o = absurd (past-none (suc op) 23 o (omega arith) (leb→le (suc op) 23 t))

pub unlisted : (p w : List ℕ) (h : Head) (op a : ℕ) → PastAll op 23 → after_step NotRunning w ≡ act_op p w h op a
unfolding act_op op_functions no_op
unlisted p w h op a =
    by_number (λ (op : ℕ). PastAll op 23 → after_step NotRunning w ≡ act_op p w h op a) 24
    ((λ o. refl) ▹ no 0 tt ▹ no 1 tt ▹ no 2 tt ▹ no 3 tt ▹ no 4 tt ▹ no 5 tt ▹ no 6 tt ▹ no 7 tt ▹ no 8 tt ▹ no 9 tt ▹
    no 10 tt ▹ no 11 tt ▹ no 12 tt ▹ no 13 tt ▹ no 14 tt ▹ no 15 tt ▹ no 16 tt ▹ no 17 tt ▹ no 18 tt ▹ no 19 tt ▹
    no 20 tt ▹ no 21 tt ▹ no 22 tt ▹ (λ k o. refl)) op
