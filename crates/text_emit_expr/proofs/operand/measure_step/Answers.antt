-- `measure_step`: two instructions.
use Rattle.text_emit_expr.proofs.NameSteps.{measure-full, measure-steps}
use Rattle.text_emit_expr.proofs.operand.measure_step.Goals as goal

pub returns-then-got-eq4 : goal.returns-then-got-eq4
returns-then-got-eq4 c =
    let g = c.args in
    λ p. measure-full g.text.now g.scope.now g.n p g.code.now g.s g.t c.requires.0
    c.requires.1
    c.measured-q.result.start c.measured-q.result.end c.measured-q.result.at
    c.slot_of-v.result.slot
    c.slot_of-v.result.ends c.requires.2 c.measured-q.ensures.0
    c.measured-q.ensures.1 c.slot_of-v.ensures _ _ c.emit-got.ensures c.if-got-eq4.true

pub returns : goal.returns
returns c =
    let g = c.args in
    λ p. measure-steps g.text.now g.scope.now g.n p g.code.now g.s g.t c.requires.0
    c.requires.1
    c.measured-q.result.start c.measured-q.result.end c.measured-q.result.at
    c.slot_of-v.result.slot
    c.slot_of-v.result.ends c.requires.2 c.measured-q.ensures.0
    c.measured-q.ensures.1 c.slot_of-v.ensures _ _ _ _ c.emit-got.ensures
    c.if-got-eq4.false c.emit.ensures
