-- `fault_here` by the role.
use mathlib.Core.Path.{ap, ◌∙◌}
use Prim.Native.Nat.{ℕ}
use mathlib.Core.Bool.{not}
use lib.Dec.{eqb, ltb}
use borrow.Author.Rules.{rules}
use Rattle.text_names.specs.FaultCode.{is_known_at, fault_here}
use Rattle.text_names.proofs.fault.fault_here.Goals as goal

pub returns-in-1 : goal.returns-in-1
unfolding fault_here
returns-in-1 c = λ h. rw c.in-1.is (ap (λ (k : ℕ). ltb k c.args.i) c.index_of.ensures)

pub returns-in-2 : goal.returns-in-2
unfolding fault_here
returns-in-2 c =
    let g = c.args in
    λ h. rw c.in-2.is
    (c.is_known.ensures (h (ap (λ (j : ℕ). eqb j 0) c.in-2.is))
    ∙ ap (λ (k : ℕ). is_known_at g.methods.now.text.now g.from k g.start g.end) c.level_of.ensures)

pub returns-in-3 : goal.returns-in-3
unfolding fault_here
returns-in-3 c = λ h. rw c.in-3.is (ap not (c.is_known-in-3.ensures (h (ap (λ (j : ℕ). eqb j 0) c.in-3.is))))

pub returns-in-4 : goal.returns-in-4
unfolding fault_here
returns-in-4 c = λ h. rw c.in-4.is (ap not c.is_call.ensures)

pub returns-in-5 : goal.returns-in-5
unfolding fault_here
returns-in-5 c = λ h. rw c.in-5.is (ap not c.is_invocation.ensures)

pub returns-in_default : goal.returns-in_default
unfolding fault_here
returns-in_default c = search rules
