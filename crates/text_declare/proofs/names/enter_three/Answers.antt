-- `enter_three`: three variables, as long as there is room.
use Prim.Native.Nat.{◌+◌}
use mathlib.Core.Path.{refl}
use mathlib.Core.Bool.{false}
use Rattle.text_types.proofs.TypeLaws.{not-both}
use Rattle.text_declare.specs.Entered.{tables}
use Rattle.text_declare.proofs.ReadingLaws.{not-ok}
use Rattle.text_declare.proofs.NameLaws.{three-enter}
use Rattle.text_declare.proofs.names.enter_three.Goals as goal

pub returns-in_err-c : goal.returns-in_err-c
returns-in_err-c c =
    let g = c.args in
    let σ = tables g.scope.now g.n g.row.now g.used in
    let none = not-ok _ c.from_residual.ensures.0 in
    three-enter g.channel.start g.channel.at g.zero.start g.zero.at g.one.start g.one.at g.code (g.code + 16)
    σ _ σ _ {r = false} (λ l. refl) c.in_err-c.ensures.1 (λ o. none) (λ o. not-both o refl) (λ o. none)
    (λ o p. not-both o refl)

pub returns-in_err-a : goal.returns-in_err-a
returns-in_err-a c =
    let g = c.args in
    let none = not-ok _ c.from_residual-in_err-a.ensures.0 in
    three-enter g.channel.start g.channel.at g.zero.start g.zero.at g.one.start g.one.at g.code c.end_code-end.result
    (tables g.scope.now g.n g.row.now g.used) _ _ _ c.end_code-end.ensures c.in_ok-c.ensures.1
    (λ o. not-both refl o) (λ o. c.in_err-a.ensures.1) (λ o. none) (λ o p. not-both p refl)

pub returns : goal.returns
returns c =
    let g = c.args in
    three-enter g.channel.start g.channel.at g.zero.start g.zero.at g.one.start g.one.at g.code c.end_code-end.result
    (tables g.scope.now g.n g.row.now g.used) _ _ _ c.end_code-end.ensures c.in_ok-c.ensures.1
    (λ o. not-both refl o) (λ o. c.in_ok-a.ensures.1) (λ o. not-both refl o) (λ o p. c.enter-3.ensures.1)
