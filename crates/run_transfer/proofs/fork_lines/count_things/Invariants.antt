-- `count_things` goes through the operands: `count` has the things among those before number j.
use Rattle.run_transfer.specs.ForkLinesCode.{things_in}
use mathlib.Core.Path.{◌≡◌}
use Prim.Native.Nat.{◌≤◌}
use Rattle.run_transfer.proofs.fork_lines.count_things.Given as goal

abbrev pub invariant-loop-j : goal.invariant-loop-j
invariant-loop-j l = (l.count ≡ things_in l.work l.n.0 l.args l.j) × (l.count ≤ l.j)
