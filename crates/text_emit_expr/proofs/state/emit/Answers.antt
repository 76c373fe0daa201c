-- `emit`: a place is left or not.
use mathlib.Core.Path.{refl}
use Rattle.text_emit_expr.specs.EndsCode.{emitted, too_many}
use Rattle.text_emit_expr.proofs.state.emit.Goals as goal

pub returns-then-s-ge4096 : goal.returns-then-s-ge4096
returns-then-s-ge4096 c = too_many c.if-s-ge4096.true c.gave_up.ensures

pub returns : goal.returns
returns c = emitted c.if-s-ge4096.false refl c.put.ensures
