-- `name_step` by the token after the name.
use Rattle.text_emit_expr.proofs.NameSteps.{assign-steps, variable-steps}
use Rattle.text_emit_expr.proofs.operand.name_step.Goals as goal

pub returns-then-u-eq-OPEN : goal.returns-then-u-eq-OPEN
returns-then-u-eq-OPEN c =
    let g = c.args in
    c.call_step.ensures g.scope.now g.n

pub returns-then-u-eq-ASSIGN : goal.returns-then-u-eq-ASSIGN
returns-then-u-eq-ASSIGN c =
    let g = c.args in
    assign-steps g.text.now g.scope.now g.n g.pending.now g.code.now g.s g.t
    c.requires.0 c.requires.1 _
    c.next_token-u.ensures _ _ _ _ c.requires.2 c.if-u-eq-ASSIGN.true c.slot_of-v.ensures
    c.push.ensures

pub returns : goal.returns
returns c =
    let g = c.args in
    variable-steps g.text.now g.scope.now g.n g.pending.now g.code.now g.s g.t
    c.requires.0 c.requires.1 _
    c.next_token-u.ensures _ _ _ _ c.requires.2 c.if-u-eq-ASSIGN.false c.if-u-eq-OPEN.false
    c.slot_of-v.ensures c.emit.ensures
