-- `call_step`: the call ends at once or not.
use Rattle.text_emit_expr.proofs.NameSteps.{call-empty-steps, call-begun-steps}
use Rattle.text_emit_expr.proofs.operand.call_step.Goals as goal

pub returns-then-v-eq-CLOSE : goal.returns-then-v-eq-CLOSE
returns-then-v-eq-CLOSE c =
    let g = c.args in
    λ scope n. call-empty-steps g.text.now scope n g.pending.now g.code.now g.s g.t c.requires.0
    c.requires.1
    g.u c.requires.3 _ c.next_token-v.ensures c.requires.2 c.requires.4 _ _
    c.if-v-eq-CLOSE.true c.emit.ensures

pub returns : goal.returns
returns c =
    let g = c.args in
    λ scope n. call-begun-steps g.text.now scope n g.pending.now g.code.now g.s g.t c.requires.0
    c.requires.1
    g.u c.requires.3 _ c.next_token-v.ensures c.requires.2 c.requires.4 _ _ c.if-v-eq-CLOSE.false
    c.push.ensures
