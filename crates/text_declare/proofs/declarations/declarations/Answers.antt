-- `declarations`: what is entered from each declaration on is entered from the first.
use native.Mathlib.Omega.{arith}
use Prim.Native.Nat.{suc, ◌≤◌}
use mathlib.Core.Path.{refl, sym, ap, ◌∙◌}
use lib.ListN.{length}
use Rattle.text_types.specs.SaysCode.{starts_kind}
use Rattle.text_types.proofs.TypeLaws.{not-both}
use Rattle.text_declare.proofs.ReadingLaws.{not-ok}
use Rattle.text_declare.proofs.DeclarationLaws.{declarations-end, declarations-on}
use Rattle.text_declare.proofs.declarations.declarations.Goals as goal

pub loop-scope-init : goal.loop-scope-init
loop-scope-init c = λ ok a τ s. s

pub returns-in_err-d : goal.returns-in_err-d
returns-in_err-d c =
    let g = c.args in
    let l = c.loop-scope in
    let starts = ap starts_kind (sym c.next_kind.ensures) ∙ sym c.starts_type.ensures ∙ c.loop-scope-test.true in
    l.invariant _ _ _
    (declarations-on g.text.now l.d.at _ _ _ starts c.in_err-d.ensures (λ o. not-ok _ c.from_residual.ensures.0)
    (λ o. not-both o refl))

pub loop-scope-smaller : goal.loop-scope-smaller
loop-scope-smaller c =
    let l = c.loop-scope in
    let bounds = c.in_ok-d.ensures.onward refl in
    let more : suc l.d.at ≤ c.in_ok-d.d.at = bounds.0 in
    let within : c.in_ok-d.d.at ≤ length c.args.text.now = bounds.1 in omega arith

pub loop-scope-preserved : goal.loop-scope-preserved
loop-scope-preserved c =
    let g = c.args in
    let l = c.loop-scope in
    let starts = ap starts_kind (sym c.next_kind.ensures) ∙ sym c.starts_type.ensures ∙ c.loop-scope-test.true in
    λ ok a τ s. l.invariant ok a τ
    (declarations-on g.text.now l.d.at _ _ τ starts c.in_ok-d.ensures (λ o. not-both refl o) (λ o. s))

pub returns : goal.returns
returns c =
    let g = c.args in
    let l = c.loop-scope in
    let starts = ap starts_kind (sym c.next_kind.ensures) ∙ sym c.starts_type.ensures ∙ c.loop-scope-test.false in
    l.invariant _ _ _ (declarations-end g.text.now l.d.at _ starts)
