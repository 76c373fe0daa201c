-- `put_bytes` goes through the bytes: those before the index are put.
use lib.ListN.{take}
use Rattle.lists.proofs.Put.{Put}
use Rattle.print_lines.proofs.writing.put_bytes.Given as goal

abbrev pub invariant-loop-b : goal.invariant-loop-b
invariant-loop-b l = Put l.initial.out l.at (take l.b-index l.bytes) l.out l.end
