-- `limits` judges one method after the other.
use Prim.Native.Nat.{ℕ, ◌<◌}
use native.Mathlib.Omega.{arith}
use mathlib.Core.Path.{sym, subst}
use lib.ListN.{length}
use Rattle.std.specs.Prelude.{Ok, Err}
use Rattle.std.proofs.lemmas.Result.{err_from_is_err_and}
use Rattle.text_limits.specs.MeasuresCode.{LimitsSay}
use Rattle.text_limits.specs.declared.method.LimitPassed.{LimitPassed}
use Rattle.text_limits.proofs.Measuring.{few, at_first, here, onward, stops, at_last}
use Rattle.text_limits.proofs.limits.limits.Goals as goal

pub loop-k-init : goal.loop-k-init
loop-k-init c = (omega arith, omega arith, λ w. at_first _ w _ _ _)

pub judge_next-requires : goal.judge_next-requires
judge_next-requires c =
    let known = c.loop-k.invariant in
    let w = c.requires.0 in
    let n = c.method_count-count.ensures.1 w.program w.left w.reads in (
      here _ w _ _ _ _ _ _ (known.2 w) (omega (arith, n, c.loop-k-test.true)),
      known.0,
      known.1,
      omega (arith, c.loop-k.auto.pending, c.requires.1),
      omega (arith, c.loop-k.auto.code, c.requires.2),
      omega (arith, c.loop-k.auto.lengths, c.requires.3),
      omega (arith, c.loop-k.auto.rows, c.requires.4),
      omega (arith, c.loop-k.auto.kept, c.requires.5),
    )

pub returns-in_err-judged : goal.returns-in_err-judged
returns-in_err-judged c =
    let known = c.loop-k.invariant in
    λ w. let n = c.method_count-count.ensures.1 w.program w.left w.reads in
    let l : c.loop-k.k < length w.program = omega (arith, n, c.loop-k-test.true) in
    let p = err_from_is_err_and c.from_residual.result c.from_residual.ensures.1 in
    rw p.1 (subst (λ (e : LimitPassed). LimitsSay w.program (Err e) c.judge_next.new.lengths c.judge_next.new.rows
    c.judge_next.new.kept) (sym p.2)
    (stops _ w _ _ _ _ _ _ (known.2 w) l (c.in_err-judged.ensures (here _ w _ _ _ _ _ _ (known.2 w) l))))

pub overflow_add-total : goal.overflow_add-total
overflow_add-total c =
    let known = c.loop-k.invariant in
    let w = c.requires.0 in
    let n = c.method_count-count.ensures.1 w.program w.left w.reads in
    let l : c.loop-k.k < length w.program = omega (arith, n, c.loop-k-test.true) in
    let j = c.in_ok-judged.ensures (here _ w _ _ _ _ _ _ (known.2 w) l) in
    omega (arith, (few j.within).1)

pub loop-k-preserved : goal.loop-k-preserved
loop-k-preserved c =
    let known = c.loop-k.invariant in
    let w = c.requires.0 in
    let n = c.method_count-count.ensures.1 w.program w.left w.reads in
    let l : c.loop-k.k < length w.program = omega (arith, n, c.loop-k-test.true) in
    let j = c.in_ok-judged.ensures (here _ w _ _ _ _ _ _ (known.2 w) l) in (
      omega (arith, (few j.within).0),
      (few j.within).1,
      λ v. let n' = c.method_count-count.ensures.1 v.program v.left v.reads in
          let l' : c.loop-k.k < length v.program = omega (arith, n', c.loop-k-test.true) in
          onward _ v _ _ _ _ _ _ (known.2 v) l' _ _ _ _ _
          (c.in_ok-judged.ensures (here _ v _ _ _ _ _ _ (known.2 v) l'))
          (omega (arith, c.loop-k.auto.lengths, c.requires.3)) (omega (arith, c.loop-k.auto.rows, c.requires.4)),
    )

pub returns : goal.returns
returns c =
    let known = c.loop-k.invariant in
    λ w. let n = c.method_count-count.ensures.1 w.program w.left w.reads in
    subst (λ (k : ℕ). LimitsSay w.program (Ok (record { methods = k; instructions = c.loop-k.total })) c.loop-k.lengths
    c.loop-k.rows c.loop-k.kept) (omega (arith, c.loop-k-test.false, c.loop-k.auto.k-end))
    (at_last _ _ _ _ _ _ _ _ (known.2 w) (omega (arith, c.loop-k-test.false, n)) known.0 known.1)
