-- `push`: a place is left or not.
use mathlib.Core.Path.{refl}
use Rattle.text_emit_expr.specs.EndsCode.{pushed, too-deep}
use Rattle.text_emit_expr.proofs.StackLaws.{three-words}
use Rattle.text_emit_expr.proofs.stack.push.Goals as goal

pub returns-then-s-ge4096 : goal.returns-then-s-ge4096
returns-then-s-ge4096 c = too-deep c.if-s-ge4096.true refl c.gave_up.ensures

pub returns : goal.returns
returns c =
    let g = c.args in
    pushed c.if-s-ge4096.false refl
    (cc (
      three-words g.pending.now g.s.entries g.op g.argument g.s.unclosed,
      c.put.ensures,
      c.put-2.ensures,
      c.put-3.ensures,
    ))
