-- `columns_used` answers the gate on one qubit first, then by the table.
use Rattle.trace.specs.ReadCode.{as_line}
use Rattle.print_lines.proofs.Texts.{columns_used-kind}
use Rattle.print_lines.proofs.writing.columns_used.Goals as goal

pub returns-then-l : goal.returns-then-l
returns-then-l c = rw (columns_used-kind (as_line c.args.l), c.if-l.true)

pub returns : goal.returns
returns c = rw (columns_used-kind (as_line c.args.l), c.if-l.false) c.at_or.ensures
