-- `same_gap` compares sums, which are equal exactly where the gaps are.
use Rattle.trace.specs.ReadCode.{as_line}
use Rattle.trace.proofs.Gaps.{gap-sums}
use Rattle.trace.proofs.same.same_gap.Goals as goal

pub returns : goal.returns
returns c =
    let args = c.args in
    gap-sums (as_line args.l1) (as_line args.l2) (as_line args.m1) (as_line args.m2)
