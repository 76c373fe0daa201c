-- `flush` goes on while the op on top waits for the end of an expression.
use Prim.Native.Nat.{◌≤◌}
use mathlib.Core.Path.{◌≡◌}
use lib.ListN.{length}
use Rattle.text_emit_expr.specs.EndsCode.{top_of, goes}
use Rattle.text_emit_expr.proofs.FlushLaws.{FlushSoFar}
use Rattle.text_emit_expr.proofs.stack.flush.Given as goal

abbrev pub invariant-loop-more : goal.invariant-loop-more
invariant-loop-more l = FlushSoFar l.pending l.initial.code l.initial.t l.puts l.code l.t × (l.t.phase ≡ 2) × (l.t.entries ≤ 4096)
    × (l.more ≡ goes (top_of l.pending l.t) l.puts) × (length l.code ≡ length l.initial.code)

abbrev pub decreases-loop-more : goal.decreases-loop-more
decreases-loop-more l = l.t.entries
