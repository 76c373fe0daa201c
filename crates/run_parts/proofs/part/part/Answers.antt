-- `part` lends the words of the part.
use Rattle.run_parts.proofs.Lifted.{part-lent}
use Rattle.run_parts.proofs.part.part.Goals as goal

pub returns : goal.returns
returns c = part-lent c.args.work.now c.args.n.0 c.part_at-from.ensures
