-- What a text's run answers, and what it leaves in the lent trace and the lent work store: "30 .., 31 .., 32 ..: all
-- before question 1"; a text that none of them refuses runs as its table does.
use Rattle.std.specs.Prelude.{ℕ, ◌*◌, Result, Ok, Err, List, take, length}
use Rattle.machine.specs.State.{Config, Line, State}
use Rattle.machine.specs.Answer.{Answer, refusal, ran, answer_of, lines_in}
use Rattle.layout.specs.Layout.{decode}
use Rattle.trace.specs.Trace.{lines_of}
use Rattle.run.specs.Answers.{trace_left, store_left, lines_no, used_no}
use Rattle.check_questions.specs.Check as questions
use Rattle.run_ability.specs.EndNumbers.{end_number}
use Rattle.run_schedule.specs.declared.entries.RunSummary.{RunSummary}
use Rattle.text.specs.Statement.{text_table}
use Rattle.text_parse.specs.Text.{Text, refused_text, translated_text}
use Rattle.text_translate.specs.Translate as text
use Rattle.run_text.specs.declared.RunRefusal.{RunRefusal}
use Rattle.run_text.specs.declared.RunRefusal.TheVariants as no

-- a refusal's number and place
abbrev pub number_of : RunRefusal → ℕ
number_of (no.Text r) = text.number_of r
number_of (no.Question r) = questions.number_of r

abbrev pub place_of : RunRefusal → ℕ
place_of (no.Text r) = text.place_of r
place_of (no.Question r) = questions.place_of r

-- the code's answer in the papers' numbers
unfoldable pub answer_numbers : Result RunSummary RunRefusal → Answer
answer_numbers (Err r) = refusal (number_of r) (place_of r)
answer_numbers (Ok o) = ran (end_number o.end) o.entries o.lines o.used

-- the answer, for a trace of so many lines and a work store of so many words
unfoldable pub text_answer : Text → List ℕ → List ℕ → ℕ → ℕ → Answer
text_answer (refused_text n i) schedule outcomes room words = refusal n i
text_answer (translated_text ms) schedule outcomes room words = answer_of (text_table ms) schedule outcomes room words

-- the trace and the work store, which keep every word where the text is refused
unfoldable pub text_trace : Text → List ℕ → List ℕ → List ℕ → List ℕ → List ℕ
text_trace (refused_text n i) schedule outcomes trace work = trace
text_trace (translated_text ms) schedule outcomes trace work = trace_left (text_table ms) schedule outcomes trace work

unfoldable pub text_store : Text → List ℕ → List ℕ → List ℕ → List ℕ → List ℕ
text_store (refused_text n i) schedule outcomes trace work = work
text_store (translated_text ms) schedule outcomes trace work = store_left (text_table ms) schedule outcomes trace work

-- what stands after a text's run, read back: the configuration that the first 8,192 words of the store give, and the
-- lines that the first words of the trace give, as many as the answer says
unfoldable pub text_config_read : Text → List ℕ → List ℕ → List ℕ → List ℕ → Config
text_config_read t schedule outcomes trace work = decode (take 8192 (text_store t schedule outcomes trace work))

unfoldable pub text_lines_read : Text → List ℕ → List ℕ → List ℕ → List ℕ → List Line
text_lines_read t schedule outcomes trace work =
    lines_of
    (take (6 * lines_no (text_answer t schedule outcomes (lines_in (length trace)) (length work)))
    (text_trace t schedule outcomes trace work))

-- both, with the outcomes used, by the answer
unfoldable pub text_state_read : Text → List ℕ → List ℕ → List ℕ → List ℕ → State
text_state_read t schedule outcomes trace work = record {
  config = text_config_read t schedule outcomes trace work;
  used = used_no (text_answer t schedule outcomes (lines_in (length trace)) (length work));
  lines = text_lines_read t schedule outcomes trace work;
}
