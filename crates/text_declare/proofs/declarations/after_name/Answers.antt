-- `after_name`: with ends or not.
use mathlib.Core.Path.{◌≡◌, refl, sym, ap, ◌∙◌}
use mathlib.Core.Bool.{false, ◌&&◌}
use Rattle.std.specs.Prelude.{is_ok}
use Rattle.text_types.specs.FoundCode.{is_channel}
use Rattle.text_types.proofs.TypeLaws.{not-both}
use Rattle.text_types.proofs.DeclarationLaws.{not-first, not-second}
use Rattle.text_declare.specs.Entered.{tables}
use Rattle.text_declare.proofs.ReadingLaws.{not-ok}
use Rattle.text_declare.proofs.DeclarationLaws.{variables-ends, variables-more}
use Rattle.text_declare.proofs.declarations.after_name.Goals.{in_default-via-in-Ok+else-is_channel, in_default-via-in_default}
use Rattle.text_declare.proofs.declarations.after_name.Goals as goal

pub returns-in-Ok : goal.returns-in-Ok
returns-in-Ok c =
    let g = c.args in
    variables-ends g.text.now g.from g.name.start g.name.at g.code (tables g.scope.now g.n g.row.now g.used) _
    (sym c.is_channel.ensures ∙ c.if-is_channel.true) refl c.in-Ok.ensures c.end_names.ensures

pub returns-in_err-first-in_default : goal.returns-in_err-first-in_default
returns-in_err-first-in_default c =
    let g = c.args in
    let none : (is_channel g.code && is_ok c.expect.result) ≡ false =
    elim c.in_default.branch [
      | in_default-via-in-Ok+else-is_channel w ↦ not-first _ _ (sym w.is_channel.ensures ∙ w.if-is_channel.false)
      | in_default-via-in_default w ↦ not-second _ _ (ap is_ok w.in_default.is)
    ] in
    variables-more g.text.now g.from g.name.start g.name.at g.code (tables g.scope.now g.n g.row.now g.used) _ _
    c.in_err-first-in_default.ensures.1 (λ o. not-ok _ c.from_residual.ensures.0) (λ o. not-both o refl) none
    c.expect.ensures

pub returns-in_ok-first-in_default : goal.returns-in_ok-first-in_default
returns-in_ok-first-in_default c =
    let g = c.args in
    let none : (is_channel g.code && is_ok c.expect.result) ≡ false =
    elim c.in_default.branch [
      | in_default-via-in-Ok+else-is_channel w ↦ not-first _ _ (sym w.is_channel.ensures ∙ w.if-is_channel.false)
      | in_default-via-in_default w ↦ not-second _ _ (ap is_ok w.in_default.is)
    ] in
    variables-more g.text.now g.from g.name.start g.name.at g.code (tables g.scope.now g.n g.row.now g.used) _ _
    c.in_ok-first-in_default.ensures.1 (λ o. not-both refl o) (λ o. c.more_names.ensures) none c.expect.ensures
