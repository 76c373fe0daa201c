-- `read` puts the tests of question 5 that the operands do not decide, and steps.
use mathlib.Core.Path.{◌∙◌}
use Rattle.check_types.proofs.Readings.{read-target, read-last, read-steps, ready}
use Rattle.check_types.proofs.read.Goals as goal

pub returns-then-target-q : goal.returns-then-target-q
returns-then-target-q c = read-target _ _ _ _ _ _ c.requires c.if-target-q.true

pub returns-then-i-o : goal.returns-then-i-o
returns-then-i-o c =
    let op = c.op_at-op.ensures.0 in
    let arg = c.arg_at-a.ensures.0 in
    read-last _ _ _ _ _ _ c.requires _ _ _ op arg c.closes.ensures c.if-i-o.true

pub step-requires : goal.step-requires
step-requires c =
    let op = c.op_at-op.ensures.0 in
    let arg = c.arg_at-a.ensures.0 in
    ready _ _ _ _ _ _ c.requires _ _ _ op arg c.closes.ensures

pub returns : goal.returns
returns c =
    let op = c.op_at-op.ensures.0 in
    let arg = c.arg_at-a.ensures.0 in
    let steps = read-steps _ _ _ _ _ _ c.requires _ _ _ op arg c.closes.ensures in
    c.step.ensures ∙ steps c.if-target-q.false c.if-i-o.false
