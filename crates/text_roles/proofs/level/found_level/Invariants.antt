-- `found_level`: at each place the search comes to the same.
use Prim.Native.Nat.{◌-◌}
use lib.ListN.{length}
use lib.Seq.{slice}
use Rattle.text_roles.proofs.Looking.{LookSoFar}
use Rattle.text_roles.proofs.level.found_level.Given as goal

abbrev pub invariant-loop-more : goal.invariant-loop-more
invariant-loop-more l = LookSoFar l.text l.least (slice l.start l.end l.text) l.from l.to l.at l.mode l.braces l.found l.more

abbrev pub decreases-loop-more : goal.decreases-loop-more
decreases-loop-more l = length l.text - l.at
