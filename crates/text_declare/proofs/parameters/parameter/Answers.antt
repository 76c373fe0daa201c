-- `parameter`: a type and a name.
use mathlib.Core.Path.{refl}
use Rattle.text_types.proofs.TypeLaws.{not-both}
use Rattle.text_declare.specs.Entered.{tables}
use Rattle.text_declare.proofs.ReadingLaws.{not-ok}
use Rattle.text_declare.proofs.ParameterLaws.{parameter-enters}
use Rattle.text_declare.proofs.parameters.parameter.Goals as goal

pub returns-in_err-t : goal.returns-in_err-t
returns-in_err-t c =
    let g = c.args in
    parameter-enters g.text.now g.from 0 (tables g.scope.now g.n g.row.now g.used) _ c.in_err-t.ensures
    (λ o. not-ok _ c.from_residual.ensures.0) (λ o. not-both o refl)

pub returns : goal.returns
returns c =
    let g = c.args in
    parameter-enters g.text.now g.from c.in_ok-t.t.code (tables g.scope.now g.n g.row.now g.used) _ c.in_ok-t.ensures
    (λ o. not-both refl o) (λ o. c.enter_name.ensures)
