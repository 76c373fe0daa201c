-- `judge_next` judges the method, and keeps what the table needs of it.
use native.Mathlib.Omega.{arith}
use mathlib.Core.Path.{sym}
use Rattle.text_limits.proofs.Measuring.{few, row-long, all-kept}
use Rattle.text_limits.proofs.limits.judge_next.Goals as goal

pub slice_bounds-keep-end : goal.slice_bounds-keep-end
slice_bounds-keep-end c = sym (row-long (c.in_ok-judged.ensures c.requires.0).0)

pub keep-requires : goal.keep-requires
keep-requires c =
    let w = (c.in_ok-judged.ensures c.requires.0).0 in
    ((few w).0, omega (arith, (few w).1), c.requires.5, c.requires.6, row-long w)

pub overflow_mul-judged : goal.overflow_mul-judged
overflow_mul-judged c = omega (arith, (few (c.in_ok-judged.ensures c.requires.0).0).1)

pub keep_code-requires : goal.keep_code-requires
keep_code-requires c =
    let small = few (c.in_ok-judged.ensures c.requires.0).0 in (
      omega (arith, small.1, c.requires.7),
      omega (arith, small.1, c.requires.4, c.judge_method.auto.code),
    )

pub returns : goal.returns
returns c =
    λ h. let w = c.in_ok-judged.ensures h in
    let small = few w.0 in
    all-kept w.0 _ w.1 (omega (arith, small.1, c.requires.7))
    (omega (arith, small.1, c.requires.4, c.judge_method.auto.code))
    c.keep.ensures.0 c.keep.ensures.1 c.keep_code.ensures
