-- The words of an instruction, counted from where the instructions begin.
use Prim.Native.Nat.{ℕ, ◌+◌, ◌*◌}
use mathlib.Core.Path.{◌≡◌, ◌∙◌, ap}
use mathlib.Core.List.{List}
use native.Mathlib.Omega.{arith}
use Rattle.table.specs.Table.{word, methods, op_at, arg_at}

pub op-there : (p : List ℕ) (start i : ℕ) {a : ℕ} → start ≡ 2 + 20 * methods p → a ≡ word p (start + 2 * i) → a ≡ op_at p i
unfolding op_at
op-there p start i s e = e ∙ ap (λ (n : ℕ). word p (n + 2 * i)) s

pub argument-there : (p : List ℕ) (start i : ℕ) {a : ℕ} → start ≡ 2 + 20 * methods p → a ≡ word p (start + 2 * i + 1)
    → a ≡ arg_at p i
unfolding arg_at
argument-there p start i s e = e ∙ ap (word p) next
  where
    next : start + 2 * i + 1 ≡ 3 + 20 * methods p + 2 * i
    next = omega (arith, s)
