-- `depth_after` by its tests.
use Rattle.text_methods.proofs.Tests.{less-one, depth-open, depth-close, depth-keep}
use Rattle.text_methods.proofs.braces.depth_after.Goals as goal

pub returns-then-kind-eq-OPEN : goal.returns-then-kind-eq-OPEN
returns-then-kind-eq-OPEN c = depth-open c.args.depth c.args.kind c.if-kind-eq-OPEN.true

pub returns-then-kind-eq-CLOSE : goal.returns-then-kind-eq-CLOSE
returns-then-kind-eq-CLOSE c = depth-close c.args.depth c.args.kind c.if-kind-eq-OPEN.false c.if-kind-eq-CLOSE.true (less-one c.args.depth c.saturating_sub.ensures)

pub returns : goal.returns
returns c = depth-keep c.args.depth c.args.kind c.if-kind-eq-OPEN.false c.if-kind-eq-CLOSE.false
