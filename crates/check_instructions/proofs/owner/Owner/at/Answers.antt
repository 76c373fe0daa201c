-- `at` stays within the method, or goes on to the next.
use mathlib.Core.Path.{◌∙◌}
use Rattle.check_instructions.proofs.Owners.{owner-stays, owner-moves, owner-most}
use native.Mathlib.Omega.{arith}
use Rattle.check_instructions.proofs.owner.Owner.at.Goals as goal

pub returns-then-i-self : goal.returns-then-i-self
returns-then-i-self c =
    let pre = c.requires in
    owner-stays _ pre.0 pre.1 _ pre.2 _ pre.3 c.if-i-self.true

pub overflow_add-self : goal.overflow_add-self
overflow_add-self c =
    let pre = c.requires in
    omega (arith, owner-most _ pre.0 pre.1 _ pre.2 _ pre.3)

pub of-requires : goal.of-requires
of-requires c =
    let pre = c.requires in
    owner-most _ pre.0 pre.1 _ pre.2 _ pre.3

pub returns : goal.returns
returns c =
    let pre = c.requires in
    let if1 = c.if-i-self in
    c.of.ensures ∙ owner-moves _ pre.0 pre.1 _ pre.2 _ pre.3 if1.false
