-- `either_way` goes by the first number.
use Rattle.run_parts.proofs.Returns.{way-first, way-second}
use Rattle.run_parts.proofs.readiness.either_way.Goals as goal

pub returns-then-a-x : goal.returns-then-a-x
returns-then-a-x c = way-first c.args.a c.args.b c.args.x c.args.y c.if-a-x.true

pub returns : goal.returns
returns c = way-second c.args.a c.args.b c.args.x c.args.y c.if-a-x.false
