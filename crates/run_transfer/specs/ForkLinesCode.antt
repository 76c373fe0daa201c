-- The lines of a FORK in the words of a trace. These definitions follow the code; that they are document 01's lines is
-- proved in proofs/.
use Rattle.std.specs.Prelude.{ℕ, zero, suc, ◌+◌, ◌-◌, ◌%◌, cond, List, ltb, leb}
use Rattle.run_store.specs.declared.values.Val.{Val}
use Rattle.trace_lines.specs.declared.TraceLine.{TraceLine}
use Rattle.trace_lines.specs.WrittenCode.{with_line}
use Rattle.run_transfer.specs.TransferCode.{operand_of}

-- the number of the next line, and the words of the trace
pub record Gifts : Type 0 where
  pub next : ℕ
  pub words : List ℕ

abbrev pub gifts : ℕ → List ℕ → Gifts
gifts i t = record { next = i; words = t }

-- how many of the first j of n operands, the deepest first, are things
unfoldable pub things_in : List ℕ → ℕ → ℕ → ℕ → ℕ
things_in work n args zero = 0
things_in work n args (suc j) =
    cond (leb 3 (operand_of work n (args - j)).tag) (things_in work n args j + 1) (things_in work n args j)

-- the line of a thing given, and such a line written where a value is a thing
abbrev pub gift_line : ℕ → ℕ → ℕ → Val → TraceLine
gift_line entry from to v =
    record { entry = entry; process = from; kind = 6; a = to; b = v.tag % 65536; c = v.number % 65536 }

unfoldable pub gift_added : Gifts → ℕ → ℕ → ℕ → Val → Gifts
gift_added g entry from to v =
    cond (ltb v.tag 3) g
    (gifts (g.next + 1) (with_line g.words g.next (gift_line entry from to v)))

unfoldable pub gifts_added : Gifts → List ℕ → ℕ → ℕ → ℕ → ℕ → ℕ → Gifts
gifts_added g work entry from to args zero = g
gifts_added g work entry from to args (suc j) =
    gift_added (gifts_added g work entry from to args j) entry from to (operand_of work from (args - j))

abbrev pub fork_line : ℕ → ℕ → ℕ → ℕ → ℕ → TraceLine
fork_line entry n child m args = record { entry = entry; process = n; kind = 5; a = child; b = m; c = args }

unfoldable pub fork_written : List ℕ → List ℕ → ℕ → ℕ → ℕ → ℕ → ℕ → ℕ → Gifts
fork_written trace work line entry n child m args =
    gifts_added (gifts (line + 1) (with_line trace line (fork_line entry n child m args))) work entry n child args args
