-- `end_names`: two names in brackets, and the three variables.
use mathlib.Core.Path.{refl}
use Rattle.text_types.proofs.Answers.{then, gone}
use Rattle.text_types.proofs.TypeLaws.{not-both}
use Rattle.text_declare.specs.Entered.{tables}
use Rattle.text_declare.proofs.EnteredLaws.{entering-left}
use Rattle.text_declare.proofs.ReadingLaws.{not-ok}
use Rattle.text_declare.proofs.NameLaws.{ends-enter}
use Rattle.text_declare.proofs.names.end_names.Goals as goal

pub returns-in_err-opening : goal.returns-in_err-opening
returns-in_err-opening c =
    let g = c.args in
    ends-enter g.text.now g.from g.channel.start g.channel.at g.code (tables g.scope.now g.n g.row.now g.used) _ {s2 = 0} {s4 = 0}
    c.in_err-opening.ensures gone gone gone gone gone
    (λ o. not-both o (not-ok _ c.from_residual.ensures.0)) (λ o. not-ok _ c.from_residual.ensures.0) (λ o. not-both o refl)

pub returns-in_err-zero : goal.returns-in_err-zero
returns-in_err-zero c =
    let g = c.args in
    ends-enter g.text.now g.from g.channel.start g.channel.at g.code (tables g.scope.now g.n g.row.now g.used) _ {s4 = 0}
    c.in_ok-opening.ensures (then c.in_err-zero.ensures) gone gone gone gone
    (λ o. not-both o (not-ok _ c.from_residual-in_err-zero.ensures.0)) (λ o. not-ok _ c.from_residual-in_err-zero.ensures.0) (λ o. not-both o refl)

pub returns-in_err-comma : goal.returns-in_err-comma
returns-in_err-comma c =
    let g = c.args in
    ends-enter g.text.now g.from g.channel.start g.channel.at g.code (tables g.scope.now g.n g.row.now g.used) _ {s4 = 0}
    c.in_ok-opening.ensures (then c.in_ok-zero.ensures) (then c.in_err-comma.ensures) gone gone gone
    (λ o. not-both o (not-ok _ c.from_residual-in_err-comma.ensures.0)) (λ o. not-ok _ c.from_residual-in_err-comma.ensures.0) (λ o. not-both o refl)

pub returns-in_err-one : goal.returns-in_err-one
returns-in_err-one c =
    let g = c.args in
    ends-enter g.text.now g.from g.channel.start g.channel.at g.code (tables g.scope.now g.n g.row.now g.used) _
    c.in_ok-opening.ensures (then c.in_ok-zero.ensures) (then c.in_ok-comma.ensures) (then c.in_err-one.ensures) gone gone
    (λ o. not-both o (not-ok _ c.from_residual-in_err-one.ensures.0)) (λ o. not-ok _ c.from_residual-in_err-one.ensures.0) (λ o. not-both o refl)

pub returns-in_err-closing : goal.returns-in_err-closing
returns-in_err-closing c =
    let g = c.args in
    ends-enter g.text.now g.from g.channel.start g.channel.at g.code (tables g.scope.now g.n g.row.now g.used) _
    c.in_ok-opening.ensures (then c.in_ok-zero.ensures) (then c.in_ok-comma.ensures) (then c.in_ok-one.ensures) (then c.in_err-closing.ensures) gone
    (λ o. not-both o (not-ok _ c.from_residual-in_err-closing.ensures.0)) (λ o. not-ok _ c.from_residual-in_err-closing.ensures.0) (λ o. not-both o refl)

pub returns-in_err-at : goal.returns-in_err-at
returns-in_err-at c =
    let g = c.args in
    ends-enter g.text.now g.from g.channel.start g.channel.at g.code (tables g.scope.now g.n g.row.now g.used) _
    c.in_ok-opening.ensures (then c.in_ok-zero.ensures) (then c.in_ok-comma.ensures) (then c.in_ok-one.ensures) (then c.in_ok-closing.ensures) (then c.in_err-at.ensures)
    (λ o. not-both o (not-ok _ c.from_residual-in_err-at.ensures.0)) (λ o. not-ok _ c.from_residual-in_err-at.ensures.0) (λ o. not-both o refl)

pub returns-in_err-three : goal.returns-in_err-three
returns-in_err-three c =
    let g = c.args in
    let none = not-ok _ c.from_residual-in_err-three.ensures.0 in
    ends-enter g.text.now g.from g.channel.start g.channel.at g.code (tables g.scope.now g.n g.row.now g.used) _
    c.in_ok-opening.ensures (then c.in_ok-zero.ensures) (then c.in_ok-comma.ensures) (then c.in_ok-one.ensures) (then c.in_ok-closing.ensures) (then c.in_ok-at.ensures)
    (λ o. not-both o none) (λ o. not-both refl o)
    (λ o text t c' a b sc sa sb type fits. entering-left none (c.in_err-three.ensures text t c' a b sc sa sb type fits))

pub returns : goal.returns
returns c =
    let g = c.args in
    ends-enter g.text.now g.from g.channel.start g.channel.at g.code (tables g.scope.now g.n g.row.now g.used) _
    c.in_ok-opening.ensures (then c.in_ok-zero.ensures) (then c.in_ok-comma.ensures) (then c.in_ok-one.ensures) (then c.in_ok-closing.ensures) (then c.in_ok-at.ensures)
    (λ o. refl) (λ o. not-both refl o) (λ o. c.in_ok-three.ensures)
