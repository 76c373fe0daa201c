-- `one_line` goes by what the step left of the entry.
use Rattle.run_entry.proofs.Returns.{line-left, no_line}
use Rattle.run_entry.proofs.entry.one_line.Goals as goal

pub returns-in-Line : goal.returns-in-Line
returns-in-Line c =
    let args = c.args in
    line-left args.step c.rest_of.ensures c.in-Line.field-0 c.in-Line.is

pub returns-in_default : goal.returns-in_default
returns-in_default c =
    let args = c.args in
    no_line args.step c.rest_of.ensures c.in_default.not-Line
