-- `write_gifts` goes through the arguments: the lines of those before number j are written.
use Rattle.run_transfer.specs.ForkLinesCode.{gifts, gifts_added}
use lib.ListN.{length}
use mathlib.Core.Path.{◌≡◌}
use Prim.Native.Nat.{◌≤◌, ◌+◌}
use Rattle.run_transfer.proofs.fork_lines.write_gifts.Given as goal

abbrev pub invariant-loop-j : goal.invariant-loop-j
invariant-loop-j l = (gifts l.next l.trace ≡ gifts_added (gifts l.line l.initial.trace) l.work l.entry l.from.0 l.to.0 l.args l.j) ×
    (l.next ≤ l.line + l.j) × (length l.trace ≡ length l.initial.trace)
