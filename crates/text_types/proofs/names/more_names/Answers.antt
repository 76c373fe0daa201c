-- `more_names`: what is answered from each comma on is answered from the first.
use native.Mathlib.Omega.{arith}
use Prim.Native.Nat.{ℕ, ◌<◌}
use mathlib.Core.Path.{refl, sym, ap, ◌∙◌, subst}
use lib.ListN.{length}
use lib.Seq.{slice}
use Rattle.text_types.specs.Answer.{declared_number}
use Rattle.text_types.specs.FoundCode.{NamesSay}
use Rattle.text_types.specs.Found.{or_else}
use Rattle.text_types.proofs.Answers.{then, gone, stays, says-left, ok-found, ok-missing}
use Rattle.text_types.proofs.Finding.{or-none, or_assoc, or-number}
use Rattle.text_types.proofs.NameLaws.{names-end, names-on, names-further}
use Rattle.text_types.proofs.names.more_names.Goals as goal

pub loop-comma-init : goal.loop-comma-init
loop-comma-init c ok a f s = s

pub returns-in_err-name : goal.returns-in_err-name
returns-in_err-name c =
    let g = c.args in
    let l = c.loop-comma in
    let text = g.text.now in
    let x = slice g.start g.end text in
    rw (stays c.from_residual.ensures)
    (λ t xs. says-left (l.invariant _ _ _ (names-on text x l.at 0 (ok-found text l.at 25 refl c.in-Ok.ensures) c.in-Ok.ensures
    (then c.in_err-name.ensures) gone) t xs))

pub loop-comma-smaller : goal.loop-comma-smaller
loop-comma-smaller c =
    let g = c.args in
    let l = c.loop-comma in
    let text = g.text.now in
    let further = names-further text (slice g.start g.end text) l.at (ok-found text l.at 25 refl c.in-Ok.ensures) c.in-Ok.ensures
    (then c.in_ok-name.ensures) refl in
    let more : l.at < c.in_ok-name.name.at = further.0 in
    let begun : l.at < length text = further.1 in omega arith

pub loop-comma-preserved : goal.loop-comma-preserved
loop-comma-preserved c ok a f s =
    let g = c.args in
    let l = c.loop-comma in
    let n = c.in_ok-name.name in
    let text = g.text.now in
    let x = slice g.start g.end text in
    subst (NamesSay text x g.from ok a)
    (sym (or_assoc (declared_number l.found) (declared_number n.found) f)
    ∙ ap (λ (m : ℕ). or_else m f) (sym (ap declared_number c.or-found.ensures ∙ or-number l.found n.found)))
    (l.invariant ok a (or_else (declared_number n.found) f)
    (names-on text x l.at f (ok-found text l.at 25 refl c.in-Ok.ensures) c.in-Ok.ensures (then c.in_ok-name.ensures) (then s)))

pub returns-in_err-last : goal.returns-in_err-last
returns-in_err-last c =
    let g = c.args in
    let l = c.loop-comma in
    let text = g.text.now in
    let x = slice g.start g.end text in
    rw (stays c.from_residual-in_err-last.ensures)
    (λ t xs. says-left (l.invariant _ _ 0 (names-end text x l.at (ok-missing text l.at 25 refl c.in_default.ensures)
    c.in_err-last.ensures) t xs))

pub returns : goal.returns
returns c =
    let g = c.args in
    let l = c.loop-comma in
    let text = g.text.now in
    let x = slice g.start g.end text in
    subst (NamesSay text x g.from _ _) (or-none (declared_number l.found))
    (l.invariant _ _ 0 (names-end text x l.at (ok-missing text l.at 25 refl c.in_default.ensures) c.in_ok-last.ensures))
