-- `declaration`: a type, a name and what comes after it.
use lib.Seq.{slice}
use Rattle.text_types.proofs.Answers.{then, gone, stays}
use Rattle.text_types.proofs.DeclarationLaws.{declaration-says}
use Rattle.text_types.proofs.declarations.declaration.Goals as goal

pub returns-in_err-t : goal.returns-in_err-t
returns-in_err-t c =
    let g = c.args in
    rw (stays c.from_residual.ensures)
    (declaration-says g.text.now (slice g.start g.end g.text.now) g.from {code = 0} {before = 0} c.in_err-t.ensures
    gone gone)

pub returns-in_err-name : goal.returns-in_err-name
returns-in_err-name c =
    let g = c.args in
    rw (stays c.from_residual-in_err-name.ensures)
    (declaration-says g.text.now (slice g.start g.end g.text.now) g.from c.in_ok-t.ensures
    (then c.in_err-name.ensures) gone)

pub returns : goal.returns
returns c =
    let g = c.args in
    declaration-says g.text.now (slice g.start g.end g.text.now) g.from c.in_ok-t.ensures
    (then c.in_ok-name.ensures) (then c.after_name.ensures)
