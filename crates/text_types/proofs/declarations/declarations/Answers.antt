-- `declarations`: what is answered from each declaration on is answered from the first.
use native.Mathlib.Omega.{arith}
use Prim.Native.Nat.{ℕ, suc, ◌≤◌}
use mathlib.Core.Path.{refl, sym, ap, ◌∙◌, subst}
use lib.ListN.{length}
use lib.Seq.{slice}
use Rattle.text_types.specs.SaysCode.{starts_kind}
use Rattle.text_types.specs.Found.{or_else}
use Rattle.text_types.specs.Answer.{declared_number}
use Rattle.text_types.specs.FoundCode.{DeclarationsSay}
use Rattle.text_types.proofs.Answers.{then, gone, stays, says-left, says-bounds}
use Rattle.text_types.proofs.Finding.{or-none, or_assoc, or-number}
use Rattle.text_types.proofs.DeclarationLaws.{declarations-end, declarations-on}
use Rattle.text_types.proofs.declarations.declarations.Goals as goal

pub loop-at-init : goal.loop-at-init
loop-at-init c ok a f s = s

pub returns-in_err-d : goal.returns-in_err-d
returns-in_err-d c =
    let g = c.args in
    let l = c.loop-at in
    let text = g.text.now in
    let x = slice g.start g.end text in
    let starts = ap starts_kind (sym c.next_kind.ensures) ∙ sym c.starts_type.ensures ∙ c.loop-at-test.true in
    rw (stays c.from_residual.ensures)
    (λ h ds. says-left (l.invariant _ _ 0 (declarations-on text x l.at 0 starts c.in_err-d.ensures gone) h ds))

pub loop-at-smaller : goal.loop-at-smaller
loop-at-smaller c =
    let l = c.loop-at in
    let d = c.in_ok-d.d in
    let bounds = says-bounds c.args.text.now _ (suc l.at) _ refl c.in_ok-d.ensures in
    let more : suc l.at ≤ d.at = bounds.0 in
    let within : d.at ≤ length c.args.text.now = bounds.1 in omega arith

pub loop-at-preserved : goal.loop-at-preserved
loop-at-preserved c o a f s =
    let g = c.args in
    let l = c.loop-at in
    let text = g.text.now in
    let x = slice g.start g.end text in
    let d = c.in_ok-d.d in
    let starts = ap starts_kind (sym c.next_kind.ensures) ∙ sym c.starts_type.ensures ∙ c.loop-at-test.true in
    subst (DeclarationsSay text x g.from o a)
    (sym (or_assoc (declared_number l.found) (declared_number d.found) f)
    ∙ ap (λ (m : ℕ). or_else m f) (sym (ap declared_number c.or-found.ensures ∙ or-number l.found d.found)))
    (l.invariant o a (or_else (declared_number d.found) f) (declarations-on text x l.at f starts c.in_ok-d.ensures (then s)))

pub returns : goal.returns
returns c =
    let g = c.args in
    let l = c.loop-at in
    let text = g.text.now in
    let x = slice g.start g.end text in
    let starts = ap starts_kind (sym c.next_kind.ensures) ∙ sym c.starts_type.ensures ∙ c.loop-at-test.false in
    subst (DeclarationsSay text x g.from _ l.at) (or-none (declared_number l.found))
    (l.invariant _ l.at 0 (declarations-end text x l.at starts))
