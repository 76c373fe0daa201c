-- `ended_step`: no operator, one after an operand, one after new T().
use Rattle.text_emit_expr.proofs.EndedSteps.{operator-steps}
use Rattle.text_emit_expr.proofs.ended.ended_step.Goals as goal

pub returns-then-s-eq1 : goal.returns-then-s-eq1
returns-then-s-eq1 c =
    let g = c.args in
    let text = g.text.now in
    let p = g.pending.now in
    λ scope n. operator-steps text scope n p g.code.now g.s g.t c.requires.3 _ _ _ c.if-s-eq1.true
    c.in-Some.ensures.0 c.in-Some.ensures.1 c.push.ensures
