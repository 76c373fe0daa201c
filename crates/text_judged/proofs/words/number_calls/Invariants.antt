-- `number_calls` copies instruction by instruction.
use mathlib.Core.Path.{◌≡◌}
use lib.ListN.{length}
use Rattle.text_judged.specs.JudgedCode.{Numbered}
use Rattle.text_judged.proofs.words.number_calls.Given as goal

abbrev pub invariant-loop-i : goal.invariant-loop-i
invariant-loop-i l = (length l.words ≡ length l.initial.words) × Numbered l.code l.words l.i
