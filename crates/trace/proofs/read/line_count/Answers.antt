-- `line_count` divides the length by six.
use mathlib.Core.Path.{sym}
use Rattle.trace.proofs.LinesOf.{lines_of-length}
use Rattle.trace.proofs.read.line_count.Goals as goal

pub returns : goal.returns
returns c = sym (lines_of-length c.args.t.now)
