-- `sub` has the result in place of its operands.
use Prim.Native.Nat.{ℕ, ◌+◌, ◌-◌}
use mathlib.Core.Path.{sym, ◌∙◌, ap, ap₂}
use Rattle.run_numbers.specs.NumbersCode.{biased, result_op, sub_op}
use Rattle.run_cursor.specs.CursorCode.{head_with, laid}
use Rattle.run_cursor.proofs.Shapes.{goes-as}
use Rattle.run_cursor.proofs.Arms.{two-goes}
use Rattle.run_cursor.proofs.numbers.sub.Goals as goal

pub returns : goal.returns
unfolding sub_op
returns c =
    goes-as _ _ _ _ c.result.result
    (two-goes c.requires.0 c.in_ok-x.x c.in_ok-x.y c.in_ok-x.ensures (λ (x y : ℕ). result_op (laid c.args.w.now c.args.h c.args.c) (head_with c.args.h c.args.c) (biased x + 4294967296 - biased y))
    ∙ ap (result_op (laid c.args.w.now c.args.h c.args.c) (head_with c.args.h c.args.c)) (sym (ap₂ (λ (x y : ℕ). x + 4294967296 - y) c.bias.ensures.0 c.bias-2.ensures.0)))
    c.result.ensures
