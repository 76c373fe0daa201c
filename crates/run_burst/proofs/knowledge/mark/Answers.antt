-- `mark` marks a process that can be.
use mathlib.Core.Path.{refl}
use borrow.Author.Tests.{lt-ltb, le-ltb}
use Rattle.run_burst.specs.KnowledgeCode.{marked}
use Rattle.run_burst.proofs.knowledge.mark.Goals as goal

pub returns-then-n-lt8 : goal.returns-then-n-lt8
unfolding marked
returns-then-n-lt8 c = rw (lt-ltb c.args.n 8 c.if-n-lt8.true) refl

pub returns-else-n-lt8 : goal.returns-else-n-lt8
unfolding marked
returns-else-n-lt8 c = rw (le-ltb c.args.n 8 c.if-n-lt8.false) refl
