-- `longer`: a number above 32767 stays above it.
use Prim.Native.Nat.{ℕ, ◌+◌, ◌*◌, ◌-◌}
use native.Mathlib.Omega.{arith}
use mathlib.Core.Path.{sym, ap, ◌∙◌}
use Rattle.text_tokens.proofs.Counting.{capped-below, capped-above}
use Rattle.text_tokens.proofs.number.longer.Goals as goal

pub returns-then-v-ge-TOO_LARGE : goal.returns-then-v-ge-TOO_LARGE
returns-then-v-ge-TOO_LARGE c = let g = c.args in sym (capped-above (10 * g.v + (g.b - 48)) (omega arith))

pub returns-then-n-lt-TOO_LARGE : goal.returns-then-n-lt-TOO_LARGE
returns-then-n-lt-TOO_LARGE c =
    let g = c.args in
    let d = c.digit in
    let n = ap (λ (d : ℕ). 10 * g.v + d) d.ensures in
    n ∙ sym (capped-below (10 * g.v + (g.b - 48)) (omega arith))

pub returns : goal.returns
returns c =
    let g = c.args in
    let d = c.digit in
    let n = ap (λ (d : ℕ). 10 * g.v + d) d.ensures in
    sym (capped-above (10 * g.v + (g.b - 48)) (omega arith))
