-- `is_idle` reads the mark where some process is known to be able to move.
use mathlib.Core.Path.{refl}
use Rattle.lists.proofs.Tests.{off}
use borrow.Author.Tests.{not-false}
use Rattle.run_burst.specs.KnowledgeCode.{is_idle}
use Rattle.run_burst.proofs.knowledge.Knowledge.is_idle.Goals as goal

pub returns-then-not-self : goal.returns-then-not-self
unfolding is_idle
returns-then-not-self c = rw (off c.args.self.some c.if-not-self.true) (refl)

pub returns : goal.returns
unfolding is_idle
returns c = rw (not-false c.args.self.some c.if-not-self.false) (refl)
