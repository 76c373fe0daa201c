-- Paper 3: "A run without any 2 gives what it gave before." Here is what stood before Paper 3 where the paper moved
-- something, and document 01's own rule of MEAS, which knows the outcomes 0 and 1 alone. That a run without any 2
-- finds no difference is proved in proofs/NoClick.antt.
use Rattle.std.specs.Prelude.{ℕ, cond, List, [], ◌∷◌, pos, get_or, take, length, eqb, leb}
use Rattle.lists.specs.Lists.{any}
use Rattle.table.specs.Table.{op_at}
use Rattle.table.specs.Reading.{taken_at}
use Rattle.table.specs.Questions.{Verdict, and_then, first_of, table_questions, question7, question8}
use Rattle.machine.specs.Value.{int, is_empty}
use Rattle.machine.specs.State.{Frame, State, process_at, started, push, measured}
use Rattle.machine.specs.Act.{Act, stuck, faults, goes, At, operand, as_qubit, with_outcome, doing_of, scene_of, by_status}
use Rattle.machine.specs.Entry.{MachineOf, frames_without, push_top}
use Rattle.machine.specs.Run.{Result, run_in}
use Rattle.machine.specs.Answer.{Answer, unless_refused}

-- "Is each outcome byte 0 or 1? 6 (its index)"
unfoldable pub question6_before : List ℕ → Verdict
question6_before outcomes = first_of 6 (λ i. leb (get_or outcomes i 0) 1) (length outcomes)

unfoldable pub questions_before : List ℕ → List ℕ → List ℕ → ℕ → Verdict
questions_before p schedule outcomes words =
    and_then (table_questions p) (and_then (question6_before outcomes) (and_then (question7 schedule) (question8 words)))

-- "qubit off, next outcome on as int", where an outcome is 0 or 1 and there is no case for any other
unfoldable pub do_meas_before : At → Act
do_meas_before a =
    as_qubit (operand a 0) (λ q. with_outcome a.outcomes (λ o.
    cond (leb o 1) (goes (push (int (pos o)) a.frame ∷ a.callers) (measured q o ∷ []) 1) stuck))

unfoldable pub doing_before : ℕ → At → Act
doing_before op a = cond (eqb op 11) (do_meas_before a) (doing_of op a)

-- what a process would do by that rule, and the machine and the answer that go with it
unfoldable pub at_frame_before : List ℕ → List ℕ → State → Frame → List Frame → Act
at_frame_before p outcomes s f fs =
    cond (leb (taken_at p f.place) (length f.pending))
    (cond (any is_empty (take (taken_at p f.place) f.pending))
    (faults 20)
    (doing_before (op_at p f.place) (scene_of p outcomes s f fs)))
    stuck

unfoldable pub at_frames_before : List ℕ → List ℕ → State → List Frame → Act
at_frames_before p outcomes s [] = stuck
at_frames_before p outcomes s (f ∷ fs) = at_frame_before p outcomes s f fs

unfoldable pub act_before : List ℕ → List ℕ → State → ℕ → Act
act_before p outcomes s n =
    by_status (process_at s.config n).status (at_frames_before p outcomes s (process_at s.config n).frames)

abbrev pub machine_before : List ℕ → List ℕ → MachineOf Frame
machine_before p outcomes =
    record { act = act_before p outcomes; starts = started p; loses = frames_without; gets = push_top }

abbrev pub run_before : List ℕ → List ℕ → ℕ → List ℕ → Result
run_before p outcomes = run_in (machine_before p outcomes)

unfoldable pub answer_before : List ℕ → List ℕ → List ℕ → ℕ → ℕ → Answer
answer_before p schedule outcomes room words =
    unless_refused (questions_before p schedule outcomes words) (run_before p outcomes room schedule)
