-- `after_name`: with ends or not.
use Prim.Native.Nat.{ℕ}
use mathlib.Core.Path.{◌≡◌, refl, sym, ap, ◌∙◌, subst}
use mathlib.Core.Bool.{false, ◌&&◌}
use lib.Seq.{slice}
use Rattle.text_types.specs.Answer.{declared_number}
use Rattle.text_types.proofs.Finding.{or-number, ends-number}
use Rattle.std.specs.Prelude.{is_ok}
use Rattle.text_types.specs.Found.{or_else}
use Rattle.text_types.specs.FoundCode.{VariablesSay, is_channel}
use Rattle.text_types.proofs.Answers.{stays, says-left}
use Rattle.text_types.proofs.DeclarationLaws.{variables-ends, variables-more, not-first, not-second}
use Rattle.text_types.proofs.declarations.after_name.Goals.{in_default-via-in-Ok+else-is_channel, in_default-via-in_default}
use Rattle.text_types.proofs.declarations.after_name.Goals as goal

pub returns-in_err-ends-in-Ok : goal.returns-in_err-ends-in-Ok
returns-in_err-ends-in-Ok c =
    let g = c.args in
    let text = g.text.now in
    rw (stays c.from_residual.ensures)
    (λ t y h k. says-left (variables-ends text (slice g.start g.end text) g.from g.code (declared_number g.first) 0
    (sym c.is_channel.ensures ∙ c.if-is_channel.true) refl c.in-Ok.ensures c.in_err-ends-in-Ok.ensures t y h k))

pub returns-in_ok-ends-in-Ok : goal.returns-in_ok-ends-in-Ok
returns-in_ok-ends-in-Ok c =
    let g = c.args in
    let text = g.text.now in
    let f = declared_number c.in_ok-ends-in-Ok.ends.found in
    subst (VariablesSay text (slice g.start g.end text) g.from g.code (declared_number g.first) _ _)
    (sym (ap declared_number c.or-found.ensures ∙ or-number c.and.result c.in_ok-ends-in-Ok.ends.found
    ∙ ap (λ (m : ℕ). or_else m f) (ap declared_number c.and.ensures ∙ ends-number g.first)))
    (variables-ends text (slice g.start g.end text) g.from g.code (declared_number g.first) f
    (sym c.is_channel.ensures ∙ c.if-is_channel.true) refl c.in-Ok.ensures c.in_ok-ends-in-Ok.ensures)

pub returns-in_err-more-in_default : goal.returns-in_err-more-in_default
returns-in_err-more-in_default c =
    let g = c.args in
    let text = g.text.now in
    let none : (is_channel g.code && is_ok c.expect.result) ≡ false =
    elim c.in_default.branch [
      | in_default-via-in-Ok+else-is_channel w ↦ not-first _ _ (sym w.is_channel.ensures ∙ w.if-is_channel.false)
      | in_default-via-in_default w ↦ not-second _ _ (ap is_ok w.in_default.is)
    ] in
    rw (stays c.from_residual-in_err-more-in_default.ensures)
    (λ t y h k. says-left (variables-more text (slice g.start g.end text) g.from g.code (declared_number g.first) 0 none
    c.expect.ensures c.in_err-more-in_default.ensures t y h k))

pub returns-in_ok-more-in_default : goal.returns-in_ok-more-in_default
returns-in_ok-more-in_default c =
    let g = c.args in
    let text = g.text.now in
    let none : (is_channel g.code && is_ok c.expect.result) ≡ false =
    elim c.in_default.branch [
      | in_default-via-in-Ok+else-is_channel w ↦ not-first _ _ (sym w.is_channel.ensures ∙ w.if-is_channel.false)
      | in_default-via-in_default w ↦ not-second _ _ (ap is_ok w.in_default.is)
    ] in
    subst (VariablesSay text (slice g.start g.end text) g.from g.code (declared_number g.first) _ _)
    (sym (ap declared_number c.or-found-in_default.ensures ∙ or-number g.first c.in_ok-more-in_default.more.found))
    (variables-more text (slice g.start g.end text) g.from g.code (declared_number g.first) _ none c.expect.ensures
    c.in_ok-more-in_default.ensures)
