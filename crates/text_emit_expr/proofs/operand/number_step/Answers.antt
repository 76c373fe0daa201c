-- `number_step`: the number fits or not.
use Rattle.text_emit_expr.proofs.OperandLaws.{number-steps, large-steps}
use Rattle.text_emit_expr.proofs.operand.number_step.Goals as goal

pub returns-then-v-ge-TOO_LARGE : goal.returns-then-v-ge-TOO_LARGE
returns-then-v-ge-TOO_LARGE c =
    let g = c.args in
    λ scope n p. large-steps g.text.now scope n p g.code.now g.s g.t c.requires.0 c.requires.1 _
    _ _ c.requires.2
    c.number_of-v.ensures c.if-v-ge-TOO_LARGE.true c.gave_up.ensures

pub returns : goal.returns
returns c =
    let g = c.args in
    λ scope n p. number-steps g.text.now scope n p g.code.now g.s g.t c.requires.0
    c.requires.1 _ _ _ c.requires.2
    c.number_of-v.ensures c.if-v-ge-TOO_LARGE.false c.emit.ensures
