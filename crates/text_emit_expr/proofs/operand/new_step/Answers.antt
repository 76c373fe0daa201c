-- `new_step`: the instruction of what is made.
use Rattle.text_emit_expr.proofs.OperandLaws.{new-steps}
use Rattle.text_emit_expr.proofs.operand.new_step.Goals as goal

pub returns : goal.returns
returns c =
    let g = c.args in
    λ scope n p. new-steps g.text.now scope n p g.code.now g.s g.t c.requires.0 c.requires.1 _ _
    _ _ _ c.requires.2
    c.allocated-a.ensures.0 c.allocated-a.ensures.1 c.allocated-a.ensures.2
    c.emit.ensures
