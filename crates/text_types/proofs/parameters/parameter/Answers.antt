-- `parameter`: a type and a name.
use lib.Seq.{slice}
use Rattle.text_types.proofs.Answers.{then, gone, stays, says-left}
use Rattle.text_types.proofs.ParameterLaws.{parameter-says}
use Rattle.text_types.proofs.parameters.parameter.Goals as goal

pub returns-in_err-t : goal.returns-in_err-t
returns-in_err-t c =
    let g = c.args in
    rw (stays c.from_residual.ensures)
    (parameter-says g.text.now (slice g.start g.end g.text.now) g.from {code = 0} c.in_err-t.ensures gone)

pub returns-in_err-name_here : goal.returns-in_err-name_here
returns-in_err-name_here c =
    let g = c.args in
    rw (stays c.from_residual-in_err-name_here.ensures)
    (says-left (parameter-says g.text.now (slice g.start g.end g.text.now) g.from
    c.in_ok-t.ensures (then c.in_err-name_here.ensures)))

pub returns : goal.returns
returns c =
    let g = c.args in
    parameter-says g.text.now (slice g.start g.end g.text.now) g.from
    c.in_ok-t.ensures (then c.in_ok-name_here.ensures)
