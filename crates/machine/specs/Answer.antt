-- What the machine answers: a refusal with 01's number and place, or the run's end and counts; and the words that a
-- run leaves in the trace.
use Rattle.std.specs.Prelude.{ℕ, ◌/◌, List, [], ◌∷◌, ◌++◌, length, drop}
use Rattle.table.specs.Questions.{Verdict, accepted, refused, questions}
use Rattle.machine.specs.State.{Line}
use Rattle.machine.specs.Run.{Result, run}

-- "A refusal gives number and place"; "A run answers end, entries used (idle ones too), lines written, outcomes used."
pub data Answer : Type 0 where
  refusal : ℕ → ℕ → Answer
  ran : ℕ → ℕ → ℕ → ℕ → Answer

-- the answer of a run's result
unfoldable pub result_answer : Result → Answer
result_answer r = ran r.end r.entries (length r.state.lines) r.state.used

unfoldable pub unless_refused : Verdict → Result → Answer
unless_refused accepted r = result_answer r
unless_refused (refused n i) r = refusal n i

-- the answer for a table, a schedule, an outcome list, a trace of so many lines and a work store of so many words
unfoldable pub answer_of : List ℕ → List ℕ → List ℕ → ℕ → ℕ → Answer
answer_of p schedule outcomes room words =
    unless_refused (questions p schedule outcomes words) (run p outcomes room schedule)

-- "Six 16-bit numbers: entry (from 0), process, kind, a, b, c"
unfoldable pub line_words : Line → List ℕ
line_words l = l.entry ∷ l.process ∷ l.kind ∷ l.a ∷ l.b ∷ l.c ∷ []

unfoldable pub trace_words : List Line → List ℕ
trace_words [] = []
trace_words (l ∷ ls) = line_words l ++ trace_words ls

-- a lent trace of so many words holds this many lines: "Six words make a line"
abbrev pub lines_in : ℕ → ℕ
lines_in words = words / 6

-- "the trace's first lines are written and the rest kept"
unfoldable pub trace_after : List Line → List ℕ → List ℕ
trace_after ls trace = trace_words ls ++ drop (length (trace_words ls)) trace
