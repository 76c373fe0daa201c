-- Texts in the parts in which they are written. These definitions follow the code.
use Rattle.std.specs.Prelude.{ℕ, List, [], ◌∷◌, ◌++◌, ltb}
use Rattle.trace_lines.specs.declared.TraceLine.{TraceLine}
use Rattle.print_format.specs.Format.{end_word, decimal, spaced, column}

-- the two halves of a line's text: what every line has, and the columns of which so many are used
unfoldable pub head_text : TraceLine → List ℕ
head_text l = decimal l.entry ++ spaced l.process ++ spaced l.kind

unfoldable pub columns_text : ℕ → TraceLine → List ℕ
columns_text used l = column (ltb 0 used) l.a ++ column (ltb 1 used) l.b ++ column (ltb 2 used) l.c

-- the last line of a run: "end, entries, lines, outcomes"
unfoldable pub end_text : ℕ → ℕ → ℕ → ℕ → List ℕ
end_text e k l o = end_word ++ spaced e ++ spaced k ++ spaced l ++ spaced o ++ (10 ∷ [])
