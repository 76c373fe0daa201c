-- `same_lines` goes through the lines: what is left from index i on decides.
use mathlib.Core.Path.{sym, ◌∙◌}
use native.Mathlib.Omega.{arith}
use Rattle.trace.specs.Trace.{lines_of, same_lines}
use Rattle.trace.proofs.SameTimed.{same_timed-lengths, same_timed-agree, same_timed-differ, same_timed-end}
use Rattle.trace.proofs.same.same_lines.Goals as goal

pub returns-then-n-line_count : goal.returns-then-n-line_count
unfolding same_lines
returns-then-n-line_count c =
    let args = c.args in
    sym (same_timed-lengths (lines_of args.a.now) (lines_of args.b.now) (omega arith))

pub returns-then-not-same_at : goal.returns-then-not-same_at
unfolding same_lines
returns-then-not-same_at c =
    let args = c.args in
    let loop = c.loop-i in
    let differ = sym c.if-not-same_at.ensures in
    sym
    (loop.invariant ∙ same_timed-differ (lines_of args.a.now) (lines_of args.b.now) loop.i (omega arith)
    (omega arith) differ)

pub loop-i-preserved : goal.loop-i-preserved
loop-i-preserved c =
    let args = c.args in
    let loop = c.loop-i in
    let agree = sym c.if-not-same_at.ensures in
    loop.invariant
    ∙ same_timed-agree (lines_of args.a.now) (lines_of args.b.now) loop.i (omega arith) (omega arith) agree

pub returns : goal.returns
unfolding same_lines
returns c =
    let args = c.args in
    let loop = c.loop-i in
    let end = same_timed-end (lines_of args.a.now) (lines_of args.b.now) loop.i (omega arith) (omega arith) in
    sym (loop.invariant ∙ end)
