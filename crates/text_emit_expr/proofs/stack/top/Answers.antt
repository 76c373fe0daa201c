-- `top`: a bracket, nothing, or an entry.
use mathlib.Core.Path.{◌∙◌}
use native.Mathlib.Omega.{arith}
use Rattle.text_emit_expr.proofs.StackLaws.{top-bracket, top-nothing, top-entry}
use Rattle.text_emit_expr.proofs.stack.top.Goals as goal

pub returns-then-s-gt0 : goal.returns-then-s-gt0
returns-then-s-gt0 c = top-bracket c.args.pending.now c.args.s c.if-s-gt0.true

pub returns-then-s-eq0 : goal.returns-then-s-eq0
returns-then-s-eq0 c = top-nothing c.args.pending.now c.args.s c.if-s-eq0.true

pub returns : goal.returns
returns c = c.at_or.ensures ∙ top-entry c.args.pending.now c.args.s (omega arith) c.if-s-eq0.false
