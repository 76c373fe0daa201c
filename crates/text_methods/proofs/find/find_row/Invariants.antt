-- `find_row`: at each place the search comes to the same.
use Prim.Native.Nat.{◌-◌}
use lib.ListN.{length}
use Rattle.text_methods.proofs.Finding.{SearchSoFar}
use Rattle.text_methods.proofs.find.find_row.Given as goal

abbrev pub invariant-loop-kind : goal.invariant-loop-kind
invariant-loop-kind l = SearchSoFar l.text (l.word) l.at l.header l.braces l.index l.kind

abbrev pub decreases-loop-kind : goal.decreases-loop-kind
decreases-loop-kind l = length l.text - l.at
