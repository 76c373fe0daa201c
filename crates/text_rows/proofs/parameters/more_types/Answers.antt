-- `more_types`: what is noted from each comma on is noted from the first.
use native.Mathlib.Omega.{arith}
use Prim.Native.Nat.{suc, ◌<◌}
use mathlib.Core.Path.{refl}
use lib.ListN.{length}
use Rattle.text_types.proofs.Answers.{says-bounds, ok-found, ok-missing}
use Rattle.text_types.proofs.TypeLaws.{not-both}
use Rattle.text_declare.proofs.ReadingLaws.{comma-further}
use Rattle.text_rows.proofs.ReadingLaws.{rest-none, rest_more}
use Rattle.text_rows.proofs.parameters.more_types.Goals as goal

pub loop-comma-init : goal.loop-comma-init
loop-comma-init c = λ after s. s

pub returns-in_default-parameter_type : goal.returns-in_default-parameter_type
returns-in_default-parameter_type c =
    let g = c.args in
    let l = c.loop-comma in
    l.invariant l.row
    (rest_more g.text.now l.at 0 l.row l.row l.row (ok-found g.text.now l.at 25 refl c.in-Ok.ensures) c.in-Ok.ensures
    c.in_default-parameter_type.ensures (λ o. not-both o refl) (λ o. not-both o refl))

pub loop-comma-smaller : goal.loop-comma-smaller
loop-comma-smaller c =
    let g = c.args in
    let l = c.loop-comma in
    let p = c.in-Ok-parameter_type.p in
    let further = comma-further g.text.now l.at (ok-found g.text.now l.at 25 refl c.in-Ok.ensures) c.in-Ok.ensures
    (λ stands o. says-bounds g.text.now _ (suc c.in-Ok.comma) _ o c.in-Ok-parameter_type.ensures) refl in
    let more : l.at < p.at = further.0 in
    let begun : l.at < length g.text.now = further.1 in omega arith

pub loop-comma-preserved : goal.loop-comma-preserved
loop-comma-preserved c =
    let g = c.args in
    let l = c.loop-comma in
    λ after s. l.invariant after
    (rest_more g.text.now l.at c.in-Ok-parameter_type.p.code l.row c.note.new.row after
    (ok-found g.text.now l.at 25 refl c.in-Ok.ensures) c.in-Ok.ensures c.in-Ok-parameter_type.ensures
    (λ o. c.note.ensures) (λ o. s))

pub returns : goal.returns
returns c =
    let g = c.args in
    let l = c.loop-comma in
    l.invariant l.row (rest-none g.text.now l.at l.row (ok-missing g.text.now l.at 25 refl c.in_default.ensures))
