-- `grammar_place`: what is answered from each method on is answered from the first.
use native.Mathlib.Omega.{arith}
use Prim.Native.Nat.{suc, ◌≤◌}
use mathlib.Core.Path.{refl, sym, ◌∙◌}
use lib.ListN.{length}
use Rattle.text_types.proofs.Answers.{stays, says-bounds}
use Rattle.text_program.proofs.ProgramLaws.{from-start, program-left, program-last, program-on}
use Rattle.text_program.proofs.program.grammar_place.Goals as goal

pub loop-at-init : goal.loop-at-init
loop-at-init c = λ ok a s. s

pub returns-in_err-at : goal.returns-in_err-at
returns-in_err-at c =
    let text = c.args.text.now in
    rw (stays c.from_residual.ensures)
    (from-start text (c.loop-at.invariant _ _ (program-left text c.loop-at.at c.in_err-at.ensures refl)))

pub returns-then-next_kind-eq-END : goal.returns-then-next_kind-eq-END
returns-then-next_kind-eq-END c =
    let text = c.args.text.now in
    from-start text (c.loop-at.invariant _ _ (program-last text c.loop-at.at c.in_ok-at.ensures refl
    (sym c.next_kind.ensures ∙ c.if-next_kind-eq-END.true)))

pub loop-at-smaller : goal.loop-at-smaller
loop-at-smaller c =
    let text = c.args.text.now in
    let l = c.loop-at in
    let bounds = says-bounds text _ (suc l.at) _ refl c.in_ok-at.ensures in
    let more : suc l.at ≤ c.in_ok-at.at = bounds.0 in
    let within : c.in_ok-at.at ≤ length text = bounds.1 in omega arith

pub loop-at-preserved : goal.loop-at-preserved
loop-at-preserved c =
    λ o a s. c.loop-at.invariant o a (program-on c.args.text.now c.loop-at.at c.in_ok-at.ensures refl
    (λ h. c.if-next_kind-eq-END.false (c.next_kind.ensures ∙ h)) s)
