-- The questions of each part of the code, and question 6's test at one outcome. These definitions follow
-- the code.
use Rattle.std.specs.Prelude.{ℕ, Bool, List, get_or, leb}
use Rattle.table.specs.Questions.{Verdict, and_then, question4, question5, question6, question7, question8}

-- questions 4 and 5, and 6 to 8
unfoldable pub code_questions : List ℕ → Verdict
code_questions p = and_then (question4 p) (question5 p)

unfoldable pub input_questions : List ℕ → List ℕ → ℕ → Verdict
input_questions schedule outcomes work = and_then (question6 outcomes) (and_then (question7 schedule) (question8 work))

-- an outcome is 0, 1 or 2
abbrev pub outcome_kept : List ℕ → ℕ → Bool
outcome_kept outcomes i = leb (get_or outcomes i 0) 2
