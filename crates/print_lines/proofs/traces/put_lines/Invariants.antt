-- `put_lines` goes through the lines: the text of the first i is put.
use lib.ListN.{take}
use Rattle.trace.specs.Trace.{lines_of}
use Rattle.print_format.specs.Format.{lines_text}
use Rattle.lists.proofs.Put.{Put}
use Rattle.print_lines.proofs.traces.put_lines.Given as goal

abbrev pub invariant-loop-i : goal.invariant-loop-i
invariant-loop-i l = Put l.initial.out l.at (lines_text (take l.i (lines_of l.trace))) l.out l.end
