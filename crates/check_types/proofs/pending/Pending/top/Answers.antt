-- The lowest byte is the top type.
use Rattle.check_types.proofs.Packed.{top-of}
use borrow.Author.Rules.{rules}
use Rattle.check_types.proofs.pending.Pending.top.Goals as goal

pub returns : goal.returns
returns c = (top-of _ _ c.args.self.packed, search rules)
