-- `count_after` by its test.
use Rattle.text_methods.proofs.Tests.{counted, not-counted}
use Rattle.text_methods.proofs.braces.count_after.Goals as goal

pub returns-then-depth-kind : goal.returns-then-depth-kind
returns-then-depth-kind c = counted c.args.depth c.args.n c.args.kind c.if-depth-kind.true

pub returns : goal.returns
returns c = not-counted c.args.depth c.args.n c.args.kind c.if-depth-kind.false
