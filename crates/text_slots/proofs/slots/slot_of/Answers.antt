-- `slot_of` goes from the innermost variable outward: what is answered for the variables outside is answered for all.
use native.Mathlib.Omega.{arith}
use Prim.Native.Nat.{ℕ, suc, ◌-◌, ◌+◌, ◌*◌}
use mathlib.Core.Bool.{false}
use mathlib.Core.Path.{◌≡◌, sym, ◌∙◌, subst}
use lib.Dec.{eqb}
use lib.ListN.{get_or}
use Rattle.text_slots.specs.Placing.{SlotAnswer}
use Rattle.text_slots.proofs.SlotLaws.{slot-none, slot-here, slot-outer}
use Rattle.text_slots.proofs.slots.slot_of.Goals as goal

pub returns-then-n-gt16 : goal.returns-then-n-gt16
returns-then-n-gt16 c = λ sc x p le e. absurd (omega arith)

pub loop-k-init : goal.loop-k-init
loop-k-init c = λ s e a. a

pub returns-then-same_word : goal.returns-then-same_word
returns-then-same_word c =
    let g = c.args in
    let l = c.loop-k in
    let less : suc (l.k - 1) ≡ l.k = omega arith in
    let slot = get_or g.scope.now (4 * (l.k - 1) + 3) 0 in
    let ends = eqb (get_or g.scope.now (4 * (l.k - 1) + 2) 0) 1 in
    l.invariant slot ends
    (subst (λ (j : ℕ). SlotAnswer g.text.now g.scope.now j g.start g.end slot ends) less
    (slot-here g.text.now g.scope.now g.start g.end (l.k - 1)
    (sym c.if-same_word.true ∙ c.same_word.ensures)))

pub loop-k-preserved : goal.loop-k-preserved
loop-k-preserved c =
    let g = c.args in
    let l = c.loop-k in
    let less : suc (l.k - 1) ≡ l.k = omega arith in
    λ s e a. l.invariant s e
    (subst (λ (j : ℕ). SlotAnswer g.text.now g.scope.now j g.start g.end s e) less
    (slot-outer g.text.now g.scope.now g.start g.end (l.k - 1) s e
    (sym c.if-same_word.false ∙ c.same_word.ensures) a))

pub returns : goal.returns
returns c =
    let g = c.args in
    let l = c.loop-k in
    let none : 0 ≡ l.k = omega arith in
    l.invariant 16 false
    (subst (λ (j : ℕ). SlotAnswer g.text.now g.scope.now j g.start g.end 16 false) none
    (slot-none g.text.now g.scope.now g.start g.end))
