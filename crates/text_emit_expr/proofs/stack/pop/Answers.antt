-- `pop`: a place is left or not.
use Rattle.text_emit_expr.specs.EndsCode.{popped, no_place}
use Rattle.text_emit_expr.proofs.stack.pop.Goals as goal

pub returns-then-s-ge4096 : goal.returns-then-s-ge4096
returns-then-s-ge4096 c = no_place c.if-s-ge4096.true c.gave_up.ensures

pub returns : goal.returns
returns c = popped c.if-s-ge4096.false (cc) (cc)
