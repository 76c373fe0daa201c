-- `enter_name`: no name stands there, or one that is entered.
use mathlib.Core.Path.{refl}
use Rattle.text_types.proofs.TypeLaws.{not-both}
use Rattle.text_declare.specs.Entered.{tables}
use Rattle.text_declare.proofs.ReadingLaws.{not-ok}
use Rattle.text_declare.proofs.NameLaws.{one_name}
use Rattle.text_declare.proofs.entry.enter_name.Goals as goal

pub returns-in_err-name : goal.returns-in_err-name
returns-in_err-name c =
    let g = c.args in
    let none = not-ok _ c.from_residual.ensures.0 in
    one_name g.text.now g.from g.code (tables g.scope.now g.n g.row.now g.used) _ c.in_err-name.ensures
    (λ q. none) (λ q. not-both q none) (λ q. not-both q refl)

pub returns : goal.returns
returns c =
    let g = c.args in
    one_name g.text.now g.from g.code (tables g.scope.now g.n g.row.now g.used) _ c.in_ok-name.ensures
    (λ q. not-both refl q) (λ q. c.enter.ensures.0) (λ q. c.enter.ensures.1)
