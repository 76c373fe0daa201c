-- `op_sub` goes by whether an operand is emptied, and leaves the range to `result`.
use Rattle.run_numbers.specs.NumbersCode.{sub_op, result_op}
use Rattle.run_numbers.proofs.Returns.{two-none, two-some}
use Prim.Native.Nat.{ℕ, ◌+◌, ◌-◌}
use mathlib.Core.Path.{◌∙◌, ap₂}
use Rattle.run_numbers.proofs.numbers.op_sub.Goals as goal

pub returns-in_default : goal.returns-in_default
unfolding sub_op
returns-in_default c =
    let args = c.args in
    two-none args.w.now args.h _ c.two_numbers.ensures c.in_default.is

pub returns : goal.returns
unfolding sub_op
returns c =
    let args = c.args in
    two-some args.w.now args.h _ c.two_numbers.ensures c.in-Some.is
    (c.result.ensures
    ∙ ap₂ (λ (a b : ℕ). result_op args.w.now args.h (a + 4294967296 - b)) c.bias.ensures.0
    c.bias-2.ensures.0)
