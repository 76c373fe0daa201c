-- `past_call` judges a call by the row of its method, and on to the next one.
use native.Mathlib.Omega.{arith}
use Rattle.text_judged.proofs.Stepping.{at-hand, call-place, call-row, past_one}
use Rattle.text_judged.proofs.method.past_call.Goals as goal

pub bounds-code-j : goal.bounds-code-j
bounds-code-j c = omega (arith, c.requires.0.enough, c.requires.2)

pub callee_row-row-requires : goal.callee_row-row-requires
callee_row-row-requires c =
    let pre = c.requires in
    (call-place _ _ _ _ _ pre.0 _ pre.1 pre.2 pre.3, pre.4)

pub judge_call-next-requires : goal.judge_call-next-requires
judge_call-next-requires c =
    let pre = c.requires in
    (call-row _ _ _ _ _ pre.0 _ pre.1 pre.2 pre.3 _ c.callee_row-row.ensures, pre.2, pre.1.stops pre.2 pre.3)

pub judge-requires : goal.judge-requires
judge-requires c =
    let pre = c.requires in
    (at-hand _ _ pre.0.known, omega (arith, c.judge_call-next.ensures.0, pre.2))

pub returns : goal.returns
returns c =
    let pre = c.requires in
    let call = c.judge_call-next.ensures in
    past_one _ _ _ _ _ pre.0 _ pre.1 pre.2 pre.3 _ _ c.callee_row-row.ensures _ _ call.0 call.1 c.judge.ensures
