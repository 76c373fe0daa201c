-- `more_parameters`: what is entered from each comma on is entered from the first.
use native.Mathlib.Omega.{arith}
use Prim.Native.Nat.{◌<◌}
use mathlib.Core.Path.{refl}
use lib.ListN.{length}
use Rattle.text_types.proofs.Answers.{ok-found, ok-missing}
use Rattle.text_types.proofs.TypeLaws.{not-both}
use Rattle.text_declare.proofs.ReadingLaws.{comma-further, not-ok}
use Rattle.text_declare.proofs.ParameterLaws.{rest_end, rest-left, rest-on}
use Rattle.text_declare.proofs.parameters.more_parameters.Goals as goal

pub loop-comma-init : goal.loop-comma-init
loop-comma-init c = λ ok a τ s. s

pub returns-in_err-p : goal.returns-in_err-p
returns-in_err-p c =
    let g = c.args in
    let l = c.loop-comma in
    l.invariant _ _ _
    (rest-on g.text.now l.p.at _ _ _ (ok-found g.text.now l.p.at 25 refl c.in-Ok.ensures)
    c.in-Ok.ensures c.in_err-p.ensures (λ o. not-ok _ c.from_residual.ensures.0) (λ o. not-both o refl))

pub loop-comma-smaller : goal.loop-comma-smaller
loop-comma-smaller c =
    let g = c.args in
    let l = c.loop-comma in
    let further = comma-further g.text.now l.p.at (ok-found g.text.now l.p.at 25 refl c.in-Ok.ensures)
    c.in-Ok.ensures (λ o. c.in_ok-p.ensures.onward) refl in
    let more : l.p.at < c.in_ok-p.p.at = further.0 in
    let begun : l.p.at < length g.text.now = further.1 in omega arith

pub loop-comma-preserved : goal.loop-comma-preserved
loop-comma-preserved c =
    let g = c.args in
    let l = c.loop-comma in
    λ ok a τ s. l.invariant ok a τ
    (rest-on g.text.now l.p.at _ _ τ (ok-found g.text.now l.p.at 25 refl c.in-Ok.ensures)
    c.in-Ok.ensures c.in_ok-p.ensures (λ o. not-both refl o) (λ o. s))

pub returns-in_err-at : goal.returns-in_err-at
returns-in_err-at c =
    let g = c.args in
    let l = c.loop-comma in
    l.invariant _ _ _
    (rest-left g.text.now l.p.at _ _ (ok-missing g.text.now l.p.at 25 refl c.in_default.ensures) c.in_err-at.ensures
    (not-ok _ c.from_residual-in_err-at.ensures.0))

pub returns : goal.returns
returns c =
    let g = c.args in
    let l = c.loop-comma in
    l.invariant _ _ _
    (rest_end g.text.now l.p.at _ (ok-missing g.text.now l.p.at 25 refl c.in_default.ensures) c.in_ok-at.ensures)
