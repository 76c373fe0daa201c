-- `slots_kept` looks at the 16 slots: `kept` says whether those below `s` keep their rule.
use mathlib.Core.Path.{◌≡◌, refl}
use Rattle.lists.specs.Lists.{all_below}
use Rattle.lists.proofs.First.{all_below-next}
use native.Mathlib.Omega.{arith}
use Rattle.check_shape.proofs.rows.slots_kept.Goals as goal

pub loop-s-init : goal.loop-s-init
unfolding all_below
loop-s-init c = refl

pub loop-s-preserved : goal.loop-s-preserved
loop-s-preserved c = rw all_below-next (cc)

pub returns : goal.returns
returns c =
    let all : c.loop-s.s ≡ 16 = omega arith in
    rw all at c.loop-s.invariant
