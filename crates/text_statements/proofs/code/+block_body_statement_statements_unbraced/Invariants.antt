-- The cycle of calls of statements and blocks. Each one's measure is by the nesting left: a call within the same level
-- goes from block to statements, statement, unbraced and body, and a body or a block of a statement is one level less.
use mathlib.Core.Bool.{Bool}
use lib.ListN.{length}
use Rattle.text_parse.specs.Equations.{statements_from}
use Rattle.text_statements.specs.WithinCode.{Within}
use Prim.Native.Nat.{ℕ, ◌+◌, ◌*◌, ◌-◌}
use Rattle.text_statements.proofs.code.+block_body_statement_statements_unbraced.Given as goal

abbrev pub decreases-block : goal.decreases-block
decreases-block l = 5 * l.left + 4

abbrev pub decreases-body : goal.decreases-body
decreases-body l = 5 * l.left

abbrev pub decreases-statement : goal.decreases-statement
decreases-statement l = 5 * l.left + 2

abbrev pub decreases-statements : goal.decreases-statements
decreases-statements l = 5 * l.left + 3

abbrev pub decreases-unbraced : goal.decreases-unbraced
decreases-unbraced l = 5 * l.left + 1

abbrev pub invariant-statements-loop-at : goal.invariant-statements-loop-at
invariant-statements-loop-at l =
    (ok : Bool) (a : ℕ) → Within l.text l.starts l.n l.at (statements_from l.left) ok a
    → Within l.text l.starts l.n l.from (statements_from l.left) ok a

abbrev pub decreases-statements-loop-at : goal.decreases-statements-loop-at
decreases-statements-loop-at l = length l.text - l.at
