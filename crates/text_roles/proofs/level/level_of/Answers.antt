-- `level_of` by its test.
use Rattle.text_roles.proofs.Tests.{no-braces, some-braces}
use Rattle.text_roles.proofs.level.level_of.Goals as goal

pub returns-then-braces-eq0 : goal.returns-then-braces-eq0
returns-then-braces-eq0 c = no-braces c.args.braces c.if-braces-eq0.true

pub returns : goal.returns
returns c = some-braces c.args.braces c.if-braces-eq0.false
