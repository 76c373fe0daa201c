-- `write_two` writes twelve words with one test where all of them are within the trace.
use Prim.Native.Nat.{ℕ, ◌+◌, ◌*◌}
use mathlib.Core.Path.{◌≡◌, ◌∙◌, ap}
use native.Mathlib.Omega.{arith}
use Rattle.trace_lines.specs.WrittenCode.{with_six, with_line}
use Rattle.trace_lines.proofs.write_two.Goals as goal

pub returns-then-at-t : goal.returns-then-at-t
unfolding with_line
returns-then-at-t c =
    let args = c.args in
    let i = args.i in
    let next : 6 * i + 6 ≡ 6 * (i + 1) = omega arith in
    c.put_six-then-at-t.ensures
    ∙ ap (λ (k : ℕ). with_six c.put_six.new.t k args.m) next
    ∙ ap (λ l. with_six l (6 * (i + 1)) args.m) c.put_six.ensures
