-- `more_names`: what is entered from each comma on is entered from the first.
use native.Mathlib.Omega.{arith}
use Prim.Native.Nat.{◌<◌}
use mathlib.Core.Path.{refl}
use lib.ListN.{length}
use Rattle.text_types.proofs.Answers.{ok-found, ok-missing}
use Rattle.text_types.proofs.TypeLaws.{not-both}
use Rattle.text_declare.proofs.ReadingLaws.{comma-further, not-ok}
use Rattle.text_declare.proofs.NameLaws.{names-end, names-left, names-on}
use Rattle.text_declare.proofs.names.more_names.Goals as goal

pub loop-comma-init : goal.loop-comma-init
loop-comma-init c = λ ok a τ s. s

pub returns-in_err-e : goal.returns-in_err-e
returns-in_err-e c =
    let g = c.args in
    let l = c.loop-comma in
    l.invariant _ _ _
    (names-on g.text.now l.e.at g.code _ _ _ (ok-found g.text.now l.e.at 25 refl c.in-Ok.ensures)
    c.in-Ok.ensures c.in_err-e.ensures (λ o. not-ok _ c.from_residual.ensures.0) (λ o. not-both o refl))

pub loop-comma-smaller : goal.loop-comma-smaller
loop-comma-smaller c =
    let g = c.args in
    let l = c.loop-comma in
    let further = comma-further g.text.now l.e.at (ok-found g.text.now l.e.at 25 refl c.in-Ok.ensures)
    c.in-Ok.ensures (λ o. c.in_ok-e.ensures.onward) refl in
    let more : l.e.at < c.in_ok-e.e.at = further.0 in
    let begun : l.e.at < length g.text.now = further.1 in omega arith

pub loop-comma-preserved : goal.loop-comma-preserved
loop-comma-preserved c =
    let g = c.args in
    let l = c.loop-comma in
    λ ok a τ s. l.invariant ok a τ
    (names-on g.text.now l.e.at g.code _ _ τ (ok-found g.text.now l.e.at 25 refl c.in-Ok.ensures)
    c.in-Ok.ensures c.in_ok-e.ensures (λ o. not-both refl o) (λ o. s))

pub returns-in_err-at : goal.returns-in_err-at
returns-in_err-at c =
    let g = c.args in
    let l = c.loop-comma in
    l.invariant _ _ _
    (names-left g.text.now l.e.at g.code _ _ (ok-missing g.text.now l.e.at 25 refl c.in_default.ensures) c.in_err-at.ensures
    (not-ok _ c.from_residual-in_err-at.ensures.0))

pub returns : goal.returns
returns c =
    let g = c.args in
    let l = c.loop-comma in
    l.invariant _ _ _
    (names-end g.text.now l.e.at g.code _ (ok-missing g.text.now l.e.at 25 refl c.in_default.ensures) c.in_ok-at.ensures)
