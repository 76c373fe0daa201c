-- Paper 3: "A run without any 2 gives what it gave before", of the lent buffers: the trace and the work store that a run
-- left before Paper 3 (crate machine, specs/NoClick.antt).
use Rattle.std.specs.Prelude.{ℕ, List, length}
use Rattle.machine.specs.NoClick.{questions_before, run_before}
use Rattle.machine.specs.Answer.{lines_in, trace_after}
use Rattle.layout.specs.Holders.{store_after}
use Rattle.run.specs.Answers.{kept_if_refused}

unfoldable pub trace_before : List ℕ → List ℕ → List ℕ → List ℕ → List ℕ → List ℕ
trace_before p schedule outcomes trace work =
    kept_if_refused (questions_before p schedule outcomes (length work)) trace
    (trace_after (run_before p outcomes (lines_in (length trace)) schedule).state.lines trace)

unfoldable pub store_before : List ℕ → List ℕ → List ℕ → List ℕ → List ℕ → List ℕ
store_before p schedule outcomes trace work =
    kept_if_refused (questions_before p schedule outcomes (length work)) work
    (store_after (run_before p outcomes (lines_in (length trace)) schedule).state work)
