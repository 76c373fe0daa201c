-- `unless` forgets where a line has changed a holder.
use Rattle.run_burst.proofs.Knowing.{forgotten, not-forgotten}
use Rattle.run_burst.proofs.knowledge.Knowledge.unless.Goals as goal

pub returns-then-changed : goal.returns-then-changed
returns-then-changed c = forgotten c.args.self c.if-changed.true c.nothing_known.ensures

pub returns : goal.returns
returns c = not-forgotten c.args.self c.if-changed.false
