-- The run's answer as document 01's numbers, and what it leaves in the lent trace and the lent work store.
use Rattle.std.specs.Prelude.{ℕ, ◌*◌, Result, Ok, Err, List, take, length}
use Rattle.table.specs.Questions.{Verdict, accepted, refused, questions}
use Rattle.machine.specs.State.{Config, Line, State}
use Rattle.machine.specs.Run.{run}
use Rattle.machine.specs.Answer.{refusal, ran, answer_of, lines_in, trace_after}
use Rattle.machine.specs.Answer as machine
use Rattle.layout.specs.Layout.{decode}
use Rattle.layout.specs.Holders.{store_after}
use Rattle.trace.specs.Trace.{lines_of}
use Rattle.check_questions.specs.declared.Refusal.{Refusal}
use Rattle.check_questions.specs.Check.{number_of, place_of}
use Rattle.run_ability.specs.EndNumbers.{end_number}
use Rattle.run_schedule.specs.declared.entries.RunSummary.{RunSummary}

-- "A refusal gives number and place"; "A run answers end, entries used (idle ones too), lines written, outcomes used."
unfoldable pub answer_numbers : Result RunSummary Refusal → machine.Answer
answer_numbers (Err r) = refusal (number_of r) (place_of r)
answer_numbers (Ok o) = ran (end_number o.end) o.entries o.lines o.used

-- "trace and work store keep their bytes" where a question says no
unfoldable pub kept_if_refused : Verdict → List ℕ → List ℕ → List ℕ
kept_if_refused accepted before after = after
kept_if_refused (refused n i) before after = before

-- "After a run, the trace's first lines are written and the rest kept"
unfoldable pub trace_left : List ℕ → List ℕ → List ℕ → List ℕ → List ℕ → List ℕ
trace_left p schedule outcomes trace work =
    kept_if_refused (questions p schedule outcomes (length work)) trace
    (trace_after (run p outcomes (lines_in (length trace)) schedule).state.lines trace)

-- "the first 8,192 work words hold the final configuration", the next 64 the holders; "words beyond kept"
unfoldable pub store_left : List ℕ → List ℕ → List ℕ → List ℕ → List ℕ → List ℕ
store_left p schedule outcomes trace work =
    kept_if_refused (questions p schedule outcomes (length work)) work
    (store_after (run p outcomes (lines_in (length trace)) schedule).state work)

-- What stands after a run, read back: the configuration that the first 8,192 words of the store give, the lines that
-- the first words of the trace give, as many as the answer says, and the outcomes used, by the answer.
unfoldable pub lines_no : machine.Answer → ℕ
lines_no (refusal n i) = 0
lines_no (ran e k l u) = l

unfoldable pub used_no : machine.Answer → ℕ
used_no (refusal n i) = 0
used_no (ran e k l u) = u

unfoldable pub config_read : List ℕ → List ℕ → List ℕ → List ℕ → List ℕ → Config
config_read p schedule outcomes trace work = decode (take 8192 (store_left p schedule outcomes trace work))

unfoldable pub lines_read : List ℕ → List ℕ → List ℕ → List ℕ → List ℕ → List Line
lines_read p schedule outcomes trace work =
    lines_of
    (take (6 * lines_no (answer_of p schedule outcomes (lines_in (length trace)) (length work)))
    (trace_left p schedule outcomes trace work))

unfoldable pub state_read : List ℕ → List ℕ → List ℕ → List ℕ → List ℕ → State
state_read p schedule outcomes trace work = record {
  config = config_read p schedule outcomes trace work;
  used = used_no (answer_of p schedule outcomes (lines_in (length trace)) (length work));
  lines = lines_read p schedule outcomes trace work;
}
