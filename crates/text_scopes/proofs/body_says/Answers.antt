-- `body_says`: the parameters, then the declarations.
use mathlib.Core.Path.{ap, ◌∙◌}
use lib.Seq.{slice}
use Rattle.text_types.specs.Answer.{declared_number}
use Rattle.text_types.proofs.Finding.{or-number}
use Rattle.text_scopes.proofs.ScopeLaws.{body-found, body-read, body-opens}
use Rattle.text_scopes.proofs.body_says.Goals as goal

pub returns-in_default : goal.returns-in_default
returns-in_default c ds b =
    let g = c.args in
    absurd (body-read g.text.now (slice g.start g.end g.text.now) g.from b c.in_default.ensures)

pub returns-in_default-expect : goal.returns-in_default-expect
returns-in_default-expect c ds b =
    let g = c.args in
    absurd (body-opens g.text.now (slice g.start g.end g.text.now) g.from b c.in-Ok.ensures c.in_default-expect.ensures)

pub returns : goal.returns
returns c ds b =
    let g = c.args in
    ap declared_number c.or.ensures ∙ or-number c.in-Ok.p.found c.declared_in.result
    ∙ body-found g.text.now (slice g.start g.end g.text.now) g.from _ ds b
    c.in-Ok.ensures c.in-Ok-expect.ensures c.declared_in.ensures
