-- A line written into the words of a trace. These definitions follow the code.
use Rattle.std.specs.Prelude.{ℕ, ◌+◌, ◌*◌, List, set}
use Rattle.trace_lines.specs.declared.TraceLine.{TraceLine}

-- three words written from index i on
unfoldable pub with_three : List ℕ → ℕ → ℕ → ℕ → ℕ → List ℕ
with_three t i x y z = set (set (set t i x) (i + 1) y) (i + 2) z

-- a line written from index i on
unfoldable pub with_six : List ℕ → ℕ → TraceLine → List ℕ
with_six t i l = with_three (with_three t i l.entry l.process l.kind) (i + 3) l.a l.b l.c

-- line number i written
unfoldable pub with_line : List ℕ → ℕ → TraceLine → List ℕ
with_line t i l = with_six t (6 * i) l
