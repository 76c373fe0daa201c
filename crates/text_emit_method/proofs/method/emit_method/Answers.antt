-- `emit_method`: the header, the body and the end one after the other.
use mathlib.Core.Path.{refl}
use borrow.Author.Tests.{not-true, not-false}
use Rattle.text.specs.Tree.{main_first}
use Rattle.text_emit.proofs.EmitLaws.{lost}
use Rattle.text_emit_method.proofs.EndLaws.{ends_stuck}
use Rattle.text_emit_method.proofs.MethodLaws.{method-parameters, method-emits, method-refused}
use Rattle.text_emit_method.proofs.method.emit_method.Goals as goal

pub returns-then-not-h : goal.returns-then-not-h
returns-then-not-h c =
    let h = c.header-h in
    λ ns us reading p q fit wide. method-parameters _ _ _ _ _ _ _ _ _ _ _ h.ensures (main_first ns) fit _ _ _
    (not-true h.result.ok c.if-not-h.true)

pub returns-in_default : goal.returns-in_default
returns-in_default c =
    let h = c.header-h in
    λ ns us reading p q fit wide. method-refused _ (method-emits _ _ _ _ _ _ _ _ _ _ _ h.ensures (main_first ns) fit
    (record { in_text = ns; after = us; reading = reading; ordered = refl }) (not-false h.result.ok c.if-not-h.false)
    lost lost _ _ c.body.new.row c.args.code.now _ c.body.new.code (c.in_default.ensures p) (ends_stuck _ lost _ _ _ _ refl))

pub returns-in_default-close : goal.returns-in_default-close
returns-in_default-close c =
    let h = c.header-h in
    λ ns us reading p q fit wide. method-refused _ (method-emits _ _ _ _ _ _ _ _ _ _ _ h.ensures (main_first ns) fit
    (record { in_text = ns; after = us; reading = reading; ordered = refl }) (not-false h.result.ok c.if-not-h.false)
    _ lost _ _ _ c.args.code.now _ _ (c.in-Some.ensures p) c.in_default-close.ensures)

pub returns : goal.returns
returns c =
    let h = c.header-h in
    λ ns us reading p q fit wide. method-emits _ _ _ _ _ _ _ _ _ _ _ h.ensures (main_first ns) fit
    (record { in_text = ns; after = us; reading = reading; ordered = refl }) (not-false h.result.ok c.if-not-h.false)
    _ _ _ _ _ _ _ _ (c.in-Some.ensures p) c.in-Some-close.ensures
