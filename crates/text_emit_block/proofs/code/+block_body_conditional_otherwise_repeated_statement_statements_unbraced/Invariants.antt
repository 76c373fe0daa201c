-- The cycle of calls of statements and blocks. Each one's measure is by the nesting left: a call within the same level
-- goes from block to statements, statement, unbraced, conditional, otherwise and body, and a block or a statement of a
-- body is one level less.
use Prim.Native.Nat.{ℕ, ◌+◌, ◌*◌, ◌-◌}
use mathlib.Core.List.{List}
use mathlib.Core.Path.{◌≡◌}
use lib.ListN.{length}
use Rattle.text_types.specs.SaysCode.{next_kind}
use Rattle.text_emit.specs.Reached.{EmitState, there}
use Rattle.text_emit_block.proofs.StatementsLaws.{StatementsFramed}
use Rattle.text_emit_block.proofs.code.+block_body_conditional_otherwise_repeated_statement_statements_unbraced.Given as goal

abbrev pub decreases-block : goal.decreases-block
decreases-block l = 7 * l.left + 6

abbrev pub decreases-body : goal.decreases-body
decreases-body l = 7 * l.left

abbrev pub decreases-conditional : goal.decreases-conditional
decreases-conditional l = 7 * l.left + 2

abbrev pub decreases-otherwise : goal.decreases-otherwise
decreases-otherwise l = 7 * l.left + 1

abbrev pub decreases-repeated : goal.decreases-repeated
decreases-repeated l = 7 * l.left + 1

abbrev pub decreases-statement : goal.decreases-statement
decreases-statement l = 7 * l.left + 4

abbrev pub decreases-statements : goal.decreases-statements
decreases-statements l = 7 * l.left + 5

abbrev pub decreases-unbraced : goal.decreases-unbraced
decreases-unbraced l = 7 * l.left + 3

abbrev pub invariant-statements-loop-kind : goal.invariant-statements-loop-kind
invariant-statements-loop-kind l =
    (l.kind ≡ next_kind l.text l.here.at)
    × (((length l.pending ≡ length l.initial.pending) × (length l.code ≡ length l.initial.code))
    × ((r : EmitState) (scope₁ row₁ code₁ : List ℕ)
    → StatementsFramed l.left l.text l.n (there l.here) l.scope l.row l.code r scope₁ row₁ code₁
    → StatementsFramed l.left l.text l.n (there l.initial.here) l.initial.scope l.initial.row l.initial.code r scope₁ row₁ code₁))

abbrev pub decreases-statements-loop-kind : goal.decreases-statements-loop-kind
decreases-statements-loop-kind l = length l.text - l.here.at
