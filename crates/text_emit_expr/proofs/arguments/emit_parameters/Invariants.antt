-- `emit_parameters`: every answer from after the last argument is one from the first.
use Prim.Native.Nat.{◌-◌, ◌≤◌}
use mathlib.Core.Path.{◌≡◌}
use lib.ListN.{length}
use Rattle.std.specs.Prelude.{Ok}
use Rattle.text_tokens.specs.NextCode.{NextToken}
use Rattle.text_emit_expr.specs.Emitted.{said}
use Rattle.text_emit_expr.proofs.ArgumentLaws.{Later}
use Rattle.text_emit_expr.proofs.arguments.emit_parameters.Given as goal

abbrev pub invariant-loop-t : goal.invariant-loop-t
invariant-loop-t l = NextToken l.text l.r.at l.t
    × Later l.text l.scope l.n l.initial.code (said (Ok l.initial.r)) l.code (said (Ok l.r)) × (l.r.at ≤ length l.text)
    × (l.r.count ≤ 4096) × (length l.pending ≡ length l.initial.pending) × (length l.code ≡ length l.initial.code) × (l.from ≤ l.r.at)

abbrev pub decreases-loop-t : goal.decreases-loop-t
decreases-loop-t l = length l.text - l.r.at
