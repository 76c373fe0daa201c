-- `braces_after` by its tests.
use Rattle.text_methods.proofs.Tests.{less-one, braces-open, braces-close, braces-keep}
use Rattle.text_methods.proofs.braces.braces_after.Goals as goal

pub returns-then-kind-eq-OPEN_BRACE : goal.returns-then-kind-eq-OPEN_BRACE
returns-then-kind-eq-OPEN_BRACE c = braces-open c.args.braces c.args.kind c.if-kind-eq-OPEN_BRACE.true

pub returns-then-kind-eq-CLOSE_BRACE : goal.returns-then-kind-eq-CLOSE_BRACE
returns-then-kind-eq-CLOSE_BRACE c = braces-close c.args.braces c.args.kind c.if-kind-eq-OPEN_BRACE.false c.if-kind-eq-CLOSE_BRACE.true (less-one c.args.braces c.saturating_sub.ensures)

pub returns : goal.returns
returns c = braces-keep c.args.braces c.args.kind c.if-kind-eq-OPEN_BRACE.false c.if-kind-eq-CLOSE_BRACE.false
