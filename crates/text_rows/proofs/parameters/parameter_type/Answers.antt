-- `parameter_type`: a type and a name.
use Rattle.text_types.proofs.Answers.{then, gone, stays, says-left}
use Rattle.text_rows.proofs.ReadingLaws.{parameter-type}
use Rattle.text_rows.proofs.parameters.parameter_type.Goals as goal

pub returns-in_err-t : goal.returns-in_err-t
returns-in_err-t c =
    rw (stays c.from_residual.ensures)
    (parameter-type c.args.text.now c.args.from 0 c.in_err-t.ensures gone)

pub returns-in_err-at : goal.returns-in_err-at
returns-in_err-at c =
    rw (stays c.from_residual-in_err-at.ensures)
    (says-left (parameter-type c.args.text.now c.args.from _ c.in_ok-t.ensures (then c.in_err-at.ensures)))

pub returns : goal.returns
returns c =
    parameter-type c.args.text.now c.args.from _ c.in_ok-t.ensures (then c.in_ok-at.ensures)
