-- `result` is none where the int is out of range.
use Prim.Native.Nat.{◌<◌, ◌≤◌}
use native.Mathlib.Omega.{arith}
use mathlib.Core.Path.{sym}
use Rattle.run_numbers.proofs.Returns.{result-in}
use Rattle.run_cursor.specs.CursorCode.{head_with, laid}
use Rattle.run_cursor.proofs.Shapes.{went-as}
use Rattle.run_cursor.proofs.numbers.result.Goals as goal

pub returns : goal.returns
returns c =
    let low : 2147483648 ≤ c.args.s = omega arith in
    let high : c.args.s < 6442450944 = omega arith in
    went-as (sym (result-in (laid c.args.w.now c.args.h c.args.c) (head_with c.args.h c.args.c) c.args.s low high))
    c.replace_two.ensures
