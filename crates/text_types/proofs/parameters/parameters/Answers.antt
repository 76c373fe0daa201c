-- `parameters`: none, or one and those after it.
use mathlib.Core.Path.{refl, sym, ap, ◌∙◌, subst}
use lib.Seq.{slice}
use Rattle.text_types.specs.Answer.{declared_number}
use Rattle.text_types.proofs.Finding.{or-number}
use Rattle.text_types.specs.FoundCode.{ParametersSay}
use Rattle.text_types.proofs.Answers.{then, gone, stays, says-left}
use Rattle.text_types.proofs.ParameterLaws.{parameters-none, parameters-some}
use Rattle.text_types.proofs.parameters.parameters.Goals as goal

pub returns-in-Ok : goal.returns-in-Ok
returns-in-Ok c =
    let g = c.args in
    parameters-none g.text.now (slice g.start g.end g.text.now) g.from refl c.in-Ok.ensures

pub returns-in_err-p : goal.returns-in_err-p
returns-in_err-p c =
    let g = c.args in
    rw (stays c.from_residual.ensures)
    (says-left (parameters-some g.text.now (slice g.start g.end g.text.now) g.from 0 refl c.in_default.ensures
    c.in_err-p.ensures gone))

pub returns-in_err-more : goal.returns-in_err-more
returns-in_err-more c =
    let g = c.args in
    rw (stays c.from_residual-in_err-more.ensures)
    (says-left (parameters-some g.text.now (slice g.start g.end g.text.now) g.from 0 refl c.in_default.ensures
    c.in_ok-p.ensures (then c.in_err-more.ensures)))

pub returns : goal.returns
returns c =
    let g = c.args in
    let text = g.text.now in
    let x = slice g.start g.end text in
    subst (ParametersSay text x g.from _ _)
    (sym (ap declared_number c.or-found.ensures ∙ or-number c.in_ok-p.p.found c.in_ok-more.more.found))
    (parameters-some text x g.from _ refl c.in_default.ensures c.in_ok-p.ensures (then c.in_ok-more.ensures))
