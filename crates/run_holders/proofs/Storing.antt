-- The stored words after some lines: by the tests of each function, and by the index of the next line.
use Prim.Native.Nat.{ℕ, suc, ◌+◌, ◌-◌, ◌*◌, ◌≤◌}
use mathlib.Core.Path.{◌≡◌, ◌∙◌, ap, ap₂}
use mathlib.Core.List.{List}
use native.Mathlib.Omega.{arith}
use Rattle.machine.specs.State.{Line}
use Rattle.trace.specs.ReadCode.{line_from}
use Rattle.run_holders.specs.StoredCode.{stored_after, stored_after_lines}

pub stored-begins : (w trace : List ℕ) (from : ℕ) → w ≡ stored_after_lines w trace from (from - from)
unfolding stored_after_lines
stored-begins w trace from = ap (stored_after_lines w trace from) {x = 0} {y = from - from} (omega arith)

pub stored_next : (w trace : List ℕ) (from i : ℕ) {u v : List ℕ} {l : Line} → from ≤ i
    → u ≡ stored_after_lines w trace from (i - from) → l ≡ line_from trace (6 * i) → v ≡ stored_after 8192 u l
    → v ≡ stored_after_lines w trace from (i + 1 - from)
unfolding stored_after_lines
stored_next w trace from i h e p q =
    q ∙ ap₂ (stored_after 8192) e (p ∙ ap (λ (k : ℕ). line_from trace (6 * k)) {x = i} {y = from + (i - from)}
    (omega arith))
    ∙ ap (stored_after_lines w trace from) {x = suc (i - from)} {y = i + 1 - from} (omega arith)
