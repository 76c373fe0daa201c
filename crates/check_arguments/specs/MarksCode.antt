-- The targets that are marked while the instructions are read. These definitions follow the code.
use Rattle.std.specs.Prelude.{ℕ, zero, suc, ◌+◌, cond, List, set}
use Rattle.table.specs.Table.{offset_of, op_at, arg_at, owner_of}
use Rattle.table.specs.Ops.{op_of}

-- a 1 at the target, where the op jumps
unfoldable pub marks : ℕ → ℕ → List ℕ → List ℕ
marks op target ts = cond (op_of op).jumps (set ts target 1) ts

-- the targets of the first i instructions marked in ts
unfoldable pub marked : List ℕ → ℕ → List ℕ → List ℕ
marked p zero ts = ts
marked p (suc i) ts = marks (op_at p i) (offset_of p (owner_of p i) + arg_at p i) (marked p i ts)
