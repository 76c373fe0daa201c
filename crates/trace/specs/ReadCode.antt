-- A line as it is read from words, and what is asked of it. These definitions follow the code.
use Rattle.std.specs.Prelude.{ℕ, ◌+◌, Bool, true, cond, ◌&&◌, List, eqb, ltb, get_or, length}
use Rattle.machine.specs.Value.{eq_z}
use Rattle.machine.specs.State.{Line}
use Rattle.machine.specs.Owner.{no_line}
use Rattle.trace_lines.specs.declared.TraceLine.{TraceLine}
use Rattle.trace.specs.Trace.{same_line, gap}

-- the line of the definitions that a line of the code is
abbrev pub as_line : TraceLine → Line
as_line l = record { entry = l.entry; process = l.process; kind = l.kind; a = l.a; b = l.b; c = l.c }

-- the six words from index i on
abbrev pub line_from : List ℕ → ℕ → Line
line_from ws i = record {
  entry = get_or ws i 0;
  process = get_or ws (i + 1) 0;
  kind = get_or ws (i + 2) 0;
  a = get_or ws (i + 3) 0;
  b = get_or ws (i + 4) 0;
  c = get_or ws (i + 5) 0;
}

-- the process that a line which decides names as holder: the maker of a qubit, or the one it is given to
unfoldable pub named : Line → ℕ
named l = cond (eqb l.kind 1) l.process l.a

-- the gap from line i to the next is the same in both
unfoldable pub same_gap_at : List Line → List Line → ℕ → Bool
same_gap_at ls ms i =
    eq_z (gap (get_or ls i no_line) (get_or ls (i + 1) no_line)) (gap (get_or ms i no_line) (get_or ms (i + 1) no_line))

-- line i agrees in both, and so does the gap to the next line, if there is one
unfoldable pub same_at : List Line → List Line → ℕ → Bool
same_at ls ms i =
    same_line (get_or ls i no_line) (get_or ms i no_line) && cond (ltb (i + 1) (length ls)) (same_gap_at ls ms i) true
