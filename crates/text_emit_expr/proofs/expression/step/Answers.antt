-- `step` by the phase.
use Rattle.text_emit_expr.proofs.expression.step.Goals as goal

pub returns : goal.returns
returns c = c.ended_step.ensures c.args.scope.now c.args.n
