-- `recv_step`: a bracket follows or not.
use Rattle.text_emit_expr.proofs.NameSteps.{recv-steps, recv-stuck}
use Rattle.text_emit_expr.proofs.operand.recv_step.Goals as goal

pub returns-then-u-eq-OPEN : goal.returns-then-u-eq-OPEN
returns-then-u-eq-OPEN c =
    let g = c.args in
    λ scope n code. recv-steps g.text.now scope n g.pending.now code g.s g.t c.requires.0
    c.requires.1 _
    c.next_token-u.ensures _ _ c.requires.2 c.if-u-eq-OPEN.true c.push.ensures

pub returns : goal.returns
returns c =
    let g = c.args in
    λ scope n code. recv-stuck g.text.now scope n g.pending.now code g.s g.t c.requires.0
    c.requires.1 _
    c.next_token-u.ensures _ _ c.requires.2 c.if-u-eq-OPEN.false c.gave_up.ensures
