-- What the code's answers of gates say of a name.
use Prim.Native.Nat.{ℕ, zero, suc, ◌≤◌, ◌<◌}
use native.Mathlib.Omega.{arith}
use mathlib.Core.Path.{◌≡◌, refl, sym, ap}
use mathlib.Core.Bool.{true, false, cond}
use mathlib.Core.List.{List, [], ◌∷◌}
use lib.Dec.{eqb, ltb}
use borrow.Author.Tests.{lt-ltb, le-leb, lt-leb}
use Rattle.lists.specs.Lists.{same}
use Rattle.table.specs.Ops.{gate_qubits}
use Rattle.text.specs.Tree.{numbered}

pub gate-here : (k : ℕ) (x w : List ℕ) (ws : List (List ℕ)) → same x w ≡ true → k ≡ numbered k x (w ∷ ws)
unfolding numbered
gate-here k x w ws e = rw e refl

pub gate-next : (k : ℕ) (x w : List ℕ) (ws : List (List ℕ)) {r : ℕ} → same x w ≡ false → r ≡ numbered (suc k) x ws
    → r ≡ numbered k x (w ∷ ws)
unfolding numbered
gate-next k x w ws e q = rw e q

pub gate-none : (k : ℕ) (x : List ℕ) → 0 ≡ numbered k x []
unfolding numbered
gate-none k x = refl

pub no-gate : (g n : ℕ) → g ≡ 0 → false ≡ cond (ltb 0 g) (eqb n (gate_qubits g)) false
no-gate g n e = ap (λ (k : ℕ). cond (ltb 0 k) (eqb n (gate_qubits k)) false) (sym e)

pub small-gate : (g n : ℕ) → (g ≡ 0 → ⊥) → g ≤ 5 → eqb n 1 ≡ cond (ltb 0 g) (eqb n (gate_qubits g)) false
unfolding gate_qubits
small-gate zero n f l = absurd (f refl)
small-gate (suc g) n f l = rw (lt-ltb 0 (suc g) (omega arith), le-leb (suc g) 5 l) refl

pub large-gate : (g n : ℕ) → (g ≡ 0 → ⊥) → 5 < g → eqb n 2 ≡ cond (ltb 0 g) (eqb n (gate_qubits g)) false
unfolding gate_qubits
large-gate zero n f l = absurd (f refl)
large-gate (suc g) n f l = rw (lt-ltb 0 (suc g) (omega arith), lt-leb (suc g) 5 l) refl
