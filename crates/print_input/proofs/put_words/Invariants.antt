-- `put_words` goes through the words: the first i of them are put.
use mathlib.Core.Path.{◌≡◌}
use lib.ListN.{take}
use Rattle.print_format.specs.Format.{words_of}
use Rattle.lists.specs.Lists.{put_from}
use Rattle.print_input.proofs.FileLaws.{part}
use Rattle.print_input.proofs.put_words.Given as goal

abbrev pub invariant-loop-i : goal.invariant-loop-i
invariant-loop-i l = l.words ≡ put_from l.initial.words 0 (take l.i (words_of (part l.bytes l.from l.n)))
