-- The answers of the check as document 01's numbers and places.
use Rattle.std.specs.Prelude.{ℕ, Result, Ok, Err}
use Rattle.table.specs.Questions.{Verdict, accepted, refused}
use Rattle.check_questions.specs.declared.Refusal.{Refusal}
use Rattle.check_questions.specs.declared.Refusal.TheVariants.{Sizes, Pairs, Rows, Instruction, Reading, Outcome, Schedule, Work}

-- the number of the question that says no
abbrev pub number_of : Refusal → ℕ
number_of Sizes = 1
number_of (Pairs m) = 2
number_of (Rows m) = 3
number_of (Instruction i) = 4
number_of (Reading i) = 5
number_of (Outcome i) = 6
number_of Schedule = 7
number_of Work = 8

-- its place, 0 where it has none
abbrev pub place_of : Refusal → ℕ
place_of Sizes = 0
place_of (Pairs m) = m
place_of (Rows m) = m
place_of (Instruction i) = i
place_of (Reading i) = i
place_of (Outcome i) = i
place_of Schedule = 0
place_of Work = 0

unfoldable pub verdict_of : {A : Type 0} → Result A Refusal → Verdict
verdict_of (Ok x) = accepted
verdict_of (Err r) = refused (number_of r) (place_of r)
