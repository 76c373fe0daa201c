-- `same_at` compares line i in both, and the gap to the next line where there is one.
use borrow.Author.Tests.{lt-ltb, le-ltb}
use mathlib.Core.Bool.{and-true}
use mathlib.Core.Path.{◌∙◌, ap₂}
use native.Mathlib.Omega.{arith}
use Prim.Native.Nat.{◌+◌, ◌<◌, ◌≤◌}
use lib.ListN.{length}
use Rattle.trace.specs.Trace.{lines_of, same_line}
use Rattle.trace.specs.ReadCode.{same_gap_at, same_at}
use Rattle.trace.proofs.same.same_at.Goals as goal

pub returns-then-n-i-gt1 : goal.returns-then-n-i-gt1
unfolding same_at same_gap_at
returns-then-n-i-gt1 c =
    let args = c.args in
    let next : args.i + 1 < length (lines_of args.a.now) = omega arith in
    rw (lt-ltb (args.i + 1) (length (lines_of args.a.now)) next) (cc)

pub returns : goal.returns
unfolding same_at
returns c =
    let args = c.args in
    let last : length (lines_of args.a.now) ≤ args.i + 1 = omega arith in
    rw (le-ltb (args.i + 1) (length (lines_of args.a.now)) last, and-true)
    (c.same_line-2.ensures ∙ ap₂ same_line c.line_at-l.ensures c.line_at-m.ensures)
