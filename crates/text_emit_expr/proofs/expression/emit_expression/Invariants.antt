-- `emit_expression`: every answer from the state reached is one from the beginning.
use Prim.Native.Nat.{◌≤◌}
use mathlib.Core.Path.{◌≡◌}
use lib.ListN.{length}
use Rattle.text_emit_expr.specs.EndsCode.{Standing}
use Rattle.text_emit_expr.proofs.ExpressionLaws.{begun, LeadsFrom, togo}
use Rattle.text_emit_expr.proofs.expression.emit_expression.Given as goal

abbrev pub invariant-loop-s : goal.invariant-loop-s
invariant-loop-s l = Standing l.text l.pending l.s
    × LeadsFrom l.text l.scope l.n l.initial.pending l.initial.code (begun l.from l.count) l.pending l.code l.s
    × (length l.pending ≡ length l.initial.pending) × (length l.code ≡ length l.initial.code) × (l.from ≤ l.s.at)

abbrev pub decreases-loop-s : goal.decreases-loop-s
decreases-loop-s l = togo l.text l.s
