-- `count_from`: at each place the count comes to the same.
use Prim.Native.Nat.{◌-◌}
use lib.ListN.{length}
use Rattle.text_methods.proofs.Counted.{CountSoFar}
use Rattle.text_methods.proofs.arguments.count_from.Given as goal

abbrev pub invariant-loop-ended : goal.invariant-loop-ended
invariant-loop-ended l = CountSoFar l.text l.from l.at l.depth l.n l.kind l.ended

abbrev pub decreases-loop-ended : goal.decreases-loop-ended
decreases-loop-ended l = length l.text - l.at
