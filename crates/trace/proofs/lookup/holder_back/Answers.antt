-- `holder_back` reads from line n - 1 backwards: none of the lines from `at` on decides.
use Prim.Native.Nat.{ℕ}
use mathlib.Core.Path.{◌≡◌, sym, ◌∙◌, ap}
use native.Mathlib.Omega.{arith}
use mathlib.Core.Option.{some}
use Rattle.trace.specs.Trace.{held, count_read}
use Rattle.trace.proofs.Held.{held-none, held-decided, held-passed, count_read-none, count_read-decided, count_read-passed}
use Rattle.trace.proofs.lookup.holder_back.Goals as goal

pub returns-then-is_deciding : goal.returns-then-is_deciding
returns-then-is_deciding c =
    let args = c.args in
    let i = c.loop-at.at in
    let l = c.line_at-l.ensures in
    let deciding = sym c.if-is_deciding.ensures in (
      ap (λ (p : ℕ). some p) c.holder_named.ensures
          ∙ sym (held-decided args.trace.now i args.q (omega arith) (omega arith) l deciding)
          ∙ sym c.loop-at.invariant.0,
      omega (arith, count_read-decided args.trace.now i args.q (omega arith) (omega arith) l deciding),
    )

pub loop-at-preserved : goal.loop-at-preserved
loop-at-preserved c =
    let args = c.args in
    let i = c.loop-at.at in
    let l = c.line_at-l.ensures in
    let passed = sym c.if-is_deciding.ensures in (
      c.loop-at.invariant.0 ∙ held-passed args.trace.now i args.q (omega arith) (omega arith) l passed,
      omega (arith, count_read-passed args.trace.now i args.q (omega arith) (omega arith) l passed),
    )

pub returns : goal.returns
returns c =
    let args = c.args in
    let begun : c.loop-at.at ≡ 0 = omega arith in
    let read =
    ap (λ (i : ℕ). count_read args.trace.now i args.q) begun ∙ count_read-none args.trace.now args.q in (
      sym (c.loop-at.invariant.0 ∙ ap (λ (i : ℕ). held args.trace.now i args.q) begun ∙ held-none args.trace.now args.q),
      omega arith,
    )
