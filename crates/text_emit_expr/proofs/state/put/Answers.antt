-- `put` writes two words.
use Rattle.text_emit_expr.proofs.StackLaws.{two-words}
use Rattle.text_emit_expr.proofs.state.put.Goals as goal

pub returns : goal.returns
returns c = cc (two-words c.args.code.now c.args.count c.args.op c.args.argument)
