-- `declaration`: a type, a name and what comes after it.
use mathlib.Core.Path.{refl}
use Rattle.text_types.proofs.Answers.{then, gone}
use Rattle.text_types.proofs.TypeLaws.{not-both}
use Rattle.text_declare.specs.Entered.{tables}
use Rattle.text_declare.proofs.ReadingLaws.{not-ok}
use Rattle.text_declare.proofs.DeclarationLaws.{declaration-enters}
use Rattle.text_declare.proofs.declarations.declaration.Goals as goal

pub returns-in_err-t : goal.returns-in_err-t
returns-in_err-t c =
    let g = c.args in
    declaration-enters g.text.now g.from 0 (tables g.scope.now g.n g.row.now g.used) _ {start = 0} c.in_err-t.ensures
    gone (λ o. not-ok _ c.from_residual.ensures.0) (λ o. not-both o refl)

pub returns-in_err-name : goal.returns-in_err-name
returns-in_err-name c =
    let g = c.args in
    declaration-enters g.text.now g.from c.in_ok-t.t.code (tables g.scope.now g.n g.row.now g.used) _ c.in_ok-t.ensures
    (then c.in_err-name.ensures) (λ o. not-ok _ c.from_residual-in_err-name.ensures.0) (λ o. not-both o refl)

pub returns : goal.returns
returns c =
    let g = c.args in
    declaration-enters g.text.now g.from c.in_ok-t.t.code (tables g.scope.now g.n g.row.now g.used) _ c.in_ok-t.ensures
    (then c.in_ok-name.ensures) (λ o. not-both refl o) (λ o. c.after_name.ensures)
