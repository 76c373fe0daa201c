-- `line_at` reads the six words of line i, which lie within the trace.
use mathlib.Core.Path.{sym, ◌∙◌}
use native.Mathlib.Omega.{arith}
use Rattle.trace.proofs.LinesOf.{lines_of-length, lines_of-at}
use Rattle.trace.proofs.read.line_at.Goals as goal

pub overflow_mul-i : goal.overflow_mul-i
overflow_mul-i c = omega (arith, lines_of-length c.args.t.now)

pub line_from-requires : goal.line_from-requires
line_from-requires c = omega (arith, lines_of-length c.args.t.now)

pub returns : goal.returns
returns c =
    c.line_from.ensures
    ∙ sym (lines_of-at c.args.t.now c.args.i c.requires)
