-- `parameters`: none, or one and those after it.
use mathlib.Core.Path.{refl}
use Rattle.text_types.proofs.TypeLaws.{not-both}
use Rattle.text_declare.specs.Entered.{tables}
use Rattle.text_declare.proofs.ReadingLaws.{not-ok}
use Rattle.text_declare.proofs.ParameterLaws.{parameters-none, parameters-some}
use Rattle.text_declare.proofs.parameters.parameters.Goals as goal

pub returns-in-Ok : goal.returns-in-Ok
returns-in-Ok c =
    let g = c.args in
    parameters-none g.text.now g.from (tables g.scope.now g.n g.row.now g.used) refl c.in-Ok.ensures

pub returns-in_err-p : goal.returns-in_err-p
returns-in_err-p c =
    let g = c.args in
    parameters-some g.text.now g.from (tables g.scope.now g.n g.row.now g.used) _ _ refl c.in_default.ensures
    c.in_err-p.ensures (λ o. not-ok _ c.from_residual.ensures.0) (λ o. not-both o refl)

pub returns : goal.returns
returns c =
    let g = c.args in
    parameters-some g.text.now g.from (tables g.scope.now g.n g.row.now g.used) _ _ refl c.in_default.ensures
    c.in_ok-p.ensures (λ o. not-both refl o) (λ o. c.more_parameters.ensures)
