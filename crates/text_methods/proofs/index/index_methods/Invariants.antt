-- `index_methods`: at each token the methods before it are written down.
use Prim.Native.Nat.{◌-◌}
use mathlib.Core.Path.{◌≡◌}
use lib.ListN.{length}
use Rattle.text_methods.proofs.Indexing.{IndexSoFar}
use Rattle.text_methods.proofs.index.index_methods.Given as goal

abbrev pub invariant-loop-t : goal.invariant-loop-t
invariant-loop-t l = IndexSoFar l.text l.index l.header l.braces l.i l.t × (length l.index ≡ length l.initial.index)

abbrev pub decreases-loop-t : goal.decreases-loop-t
decreases-loop-t l = length l.text - l.t.start
