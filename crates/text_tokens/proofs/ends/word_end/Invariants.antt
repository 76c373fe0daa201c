-- `word_end`: from each place reached the search ends at the same place.
use Prim.Native.Nat.{◌-◌}
use mathlib.Core.Path.{◌≡◌}
use lib.ListN.{length}
use Rattle.text_tokens.specs.PlacesCode.{passed, is_word_byte}
use Rattle.text_tokens.proofs.ends.word_end.Given as goal

abbrev pub invariant-loop-i : goal.invariant-loop-i
invariant-loop-i l = passed is_word_byte l.text l.i ≡ passed is_word_byte l.text l.from

abbrev pub decreases-loop-i : goal.decreases-loop-i
decreases-loop-i l = length l.text - l.i
