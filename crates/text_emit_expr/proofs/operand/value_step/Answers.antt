-- `value_step` by the kind of the token.
use Rattle.text_emit_expr.proofs.OperandLaws.{true-steps, false-steps, other-steps}
use Rattle.text_emit_expr.proofs.operand.value_step.Goals as goal

pub returns-then-t-eq-NUMBER : goal.returns-then-t-eq-NUMBER
returns-then-t-eq-NUMBER c =
    let g = c.args in
    λ p. c.number_step.ensures g.scope.now g.n p

pub returns-then-t-eq-TRUE : goal.returns-then-t-eq-TRUE
returns-then-t-eq-TRUE c =
    let g = c.args in
    λ p. true-steps g.text.now g.scope.now g.n p g.code.now g.s g.t c.requires.0
    c.requires.1 _ _ c.if-t-eq-TRUE.true
    c.emit.ensures

pub returns-then-t-eq-FALSE : goal.returns-then-t-eq-FALSE
returns-then-t-eq-FALSE c =
    let g = c.args in
    λ p. false-steps g.text.now g.scope.now g.n p g.code.now g.s g.t c.requires.0
    c.requires.1 _ _ c.if-t-eq-FALSE.true
    c.emit-then-t-eq-FALSE.ensures

pub returns-then-t-eq-NEW : goal.returns-then-t-eq-NEW
returns-then-t-eq-NEW c =
    let g = c.args in
    λ p. c.new_step.ensures g.scope.now g.n p

pub returns : goal.returns
returns c =
    let g = c.args in
    λ p. other-steps g.text.now g.scope.now g.n p g.code.now g.s g.t c.requires.0
    c.requires.1 _ _ c.if-t-eq-NUMBER.false
    c.if-t-eq-TRUE.false c.if-t-eq-FALSE.false c.if-t-eq-MEASURE.false c.if-t-eq-NEW.false c.requires.2
    c.requires.3 c.requires.4 c.gave_up.ensures
