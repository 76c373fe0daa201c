-- `more_parameters`: what is answered from each comma on is answered from the first.
use native.Mathlib.Omega.{arith}
use Prim.Native.Nat.{ℕ, ◌<◌}
use mathlib.Core.Path.{refl, sym, ap, ◌∙◌, subst}
use lib.ListN.{length}
use lib.Seq.{slice}
use Rattle.text_types.specs.Answer.{declared_number}
use Rattle.text_types.specs.FoundCode.{RestSays}
use Rattle.text_types.specs.Found.{or_else}
use Rattle.text_types.proofs.Answers.{then, gone, stays, says-left, ok-found, ok-missing}
use Rattle.text_types.proofs.Finding.{or-none, or_assoc, or-number}
use Rattle.text_types.proofs.ParameterLaws.{rest_end, rest-on, rest-further}
use Rattle.text_types.proofs.parameters.more_parameters.Goals as goal

pub loop-comma-init : goal.loop-comma-init
loop-comma-init c ok a f s = s

pub returns-in_err-p : goal.returns-in_err-p
returns-in_err-p c =
    let g = c.args in
    let l = c.loop-comma in
    let text = g.text.now in
    let x = slice g.start g.end text in
    rw (stays c.from_residual.ensures)
    (λ ps. says-left (l.invariant _ _ 0 (rest-on text x l.at 0 (ok-found text l.at 25 refl c.in-Ok.ensures) c.in-Ok.ensures
    c.in_err-p.ensures gone) ps))

pub loop-comma-smaller : goal.loop-comma-smaller
loop-comma-smaller c =
    let g = c.args in
    let l = c.loop-comma in
    let text = g.text.now in
    let further = rest-further text (slice g.start g.end text) l.at (ok-found text l.at 25 refl c.in-Ok.ensures) c.in-Ok.ensures
    c.in_ok-p.ensures refl in
    let more : l.at < c.in_ok-p.p.at = further.0 in
    let begun : l.at < length text = further.1 in omega arith

pub loop-comma-preserved : goal.loop-comma-preserved
loop-comma-preserved c ok a f s =
    let g = c.args in
    let l = c.loop-comma in
    let n = c.in_ok-p.p in
    let text = g.text.now in
    let x = slice g.start g.end text in
    subst (RestSays text x g.from ok a)
    (sym (or_assoc (declared_number l.found) (declared_number n.found) f)
    ∙ ap (λ (m : ℕ). or_else m f) (sym (ap declared_number c.or-found.ensures ∙ or-number l.found n.found)))
    (l.invariant ok a (or_else (declared_number n.found) f)
    (rest-on text x l.at f (ok-found text l.at 25 refl c.in-Ok.ensures) c.in-Ok.ensures c.in_ok-p.ensures (then s)))

pub returns-in_err-last : goal.returns-in_err-last
returns-in_err-last c =
    let g = c.args in
    let l = c.loop-comma in
    let text = g.text.now in
    let x = slice g.start g.end text in
    rw (stays c.from_residual-in_err-last.ensures)
    (λ ps. says-left (l.invariant _ _ 0 (rest_end text x l.at (ok-missing text l.at 25 refl c.in_default.ensures)
    c.in_err-last.ensures) ps))

pub returns : goal.returns
returns c =
    let g = c.args in
    let l = c.loop-comma in
    let text = g.text.now in
    let x = slice g.start g.end text in
    subst (RestSays text x g.from _ _) (or-none (declared_number l.found))
    (l.invariant _ _ 0 (rest_end text x l.at (ok-missing text l.at 25 refl c.in_default.ensures) c.in_ok-last.ensures))
