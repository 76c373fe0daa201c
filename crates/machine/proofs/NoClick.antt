-- Paper 3: "A run without any 2 gives what it gave before."
--
-- What moved is the bound of question 6: byte 2 was refused and is now an outcome. Document 01's rule of MEAS knows the
-- outcomes 0 and 1 alone. For an outcome list of 0s and 1s the questions answer as they did (`asked-before`), every
-- process would do what it would by that rule (`acts-before`), and so the run, with its lines, counts, end and
-- configuration, is the same one (`ran-before`), and the answer too (`answered-before`). A byte 2 makes a difference:
-- there question 6 said no, and says yes now (`two-allowed`).
use Prim.Native.Nat.{ℕ, ◌≤◌}
use mathlib.Core.Path.{◌≡◌, refl, sym, ◌∙◌, ap, ap₂}
use mathlib.Core.Logic.{⊎_elim}
use mathlib.Core.Bool.{Bool, true, false, cond}
use mathlib.Core.List.{List, [], ◌∷◌}
use native.Mathlib.Omega.{arith}
use lib.IntN.{pos}
use lib.ListN.{get_or, take, length}
use lib.Dec.{eqb, leb}
use borrow.Author.Tests.{eqb-true, le-leb}
use Rattle.lists.specs.Lists.{any, All}
use Rattle.lists.proofs.Tests.{decide}
use Rattle.lists.proofs.Any.{All-drop, All-get_d}
use Rattle.table.specs.Table.{op_at}
use Rattle.table.specs.Reading.{taken_at}
use Rattle.table.specs.Questions.{Verdict, accepted, refused, and_then, first_of, is_outcome, table_questions, question6, question7, question8, questions}
use Rattle.table.proofs.Opened.{table-opened}
use Rattle.machine.specs.Value.{Thing, qubit, channel, end, Value, empty, int, bool, ref, is_empty}
use Rattle.machine.specs.State.{Frame, Status, State, process_at, started, push, measured}
use Rattle.machine.specs.Act.{Act, stuck, faults, goes, At, operand, as_qubit, with_outcome, do_meas, doings, doing_of, scene_of, at_frame, at_frames, by_status, act_of}
use Rattle.machine.specs.Entry.{MachineOf, frames_without, push_top, table_machine}
use Rattle.machine.specs.Run.{Result, run, run_in}
use Rattle.machine.specs.Answer.{Answer, unless_refused, answer_of}
use Rattle.machine.specs.NoClick.{question6_before, questions_before, do_meas_before, doing_before, at_frame_before, at_frames_before, act_before, machine_before, run_before, answer_before}

-- outcomes that document 01 knows
abbrev pub NoTwo : List ℕ → Type 0
NoTwo outcomes = All (λ o. o ≤ 1) outcomes

meas-before : (a : At) → NoTwo a.outcomes → do_meas a ≡ do_meas_before a
unfolding do_meas do_meas_before
meas-before a h = by_value (operand a 0)
  where
    by-outcome : (q : ℕ) (os : List ℕ) → NoTwo os
        → with_outcome os (λ o. goes (push (int (pos o)) a.frame ∷ a.callers) (measured q o ∷ []) 1)
        ≡ with_outcome os
        (λ o. cond (leb o 1) (goes (push (int (pos o)) a.frame ∷ a.callers) (measured q o ∷ []) 1) stuck)
    by-outcome q [] h = refl
    by-outcome q (o ∷ os) h =
        sym
        (ap (λ (b : Bool). cond b (goes (push (int (pos o)) a.frame ∷ a.callers) (measured q o ∷ []) 1) stuck)
        (le-leb o 1 h.0))

    by_value : (v : Value)
        → as_qubit v
        (λ q. with_outcome a.outcomes (λ o. goes (push (int (pos o)) a.frame ∷ a.callers) (measured q o ∷ []) 1))
        ≡ as_qubit v
        (λ q. with_outcome a.outcomes
        (λ o. cond (leb o 1) (goes (push (int (pos o)) a.frame ∷ a.callers) (measured q o ∷ []) 1) stuck))
    by_value empty = refl
    by_value (int z) = refl
    by_value (bool b) = refl
    by_value (ref (qubit q)) = by-outcome q a.outcomes h
    by_value (ref (channel q)) = refl
    by_value (ref (end q d)) = refl

op-11 : (a : At) → doing_of 11 a ≡ do_meas a
unfolding doing_of doings
op-11 a = refl

doing-before : (op : ℕ) (a : At) → NoTwo a.outcomes → doing_of op a ≡ doing_before op a
unfolding doing_before
doing-before op a h = ⊎_elim at-meas elsewhere (decide (eqb op 11))
  where
    at-meas : eqb op 11 ≡ true → doing_of op a ≡ cond (eqb op 11) (do_meas_before a) (doing_of op a)
    at-meas t =
        ap (λ (n : ℕ). doing_of n a) (eqb-true op 11 t) ∙ op-11 a ∙ meas-before a h
        ∙ sym (ap (λ (b : Bool). cond b (do_meas_before a) (doing_of op a)) t)

    elsewhere : eqb op 11 ≡ false → doing_of op a ≡ cond (eqb op 11) (do_meas_before a) (doing_of op a)
    elsewhere t = sym (ap (λ (b : Bool). cond b (do_meas_before a) (doing_of op a)) t)

module _ (p outcomes : List ℕ) (h : NoTwo outcomes) where
  frames-before : (s : State) (fs : List Frame) → at_frames p outcomes s fs ≡ at_frames_before p outcomes s fs
  unfolding at_frames at_frames_before at_frame at_frame_before scene_of
  frames-before s [] = refl
  frames-before s (f ∷ fs) =
      ap
      (λ (x : Act). cond (leb (taken_at p f.place) (length f.pending))
      (cond (any is_empty (take (taken_at p f.place) f.pending)) (faults 20) x) stuck)
      (doing-before (op_at p f.place) (scene_of p outcomes s f fs) (All-drop (λ o. o ≤ 1) s.used outcomes h))

  pub acts-before : (s : State) (n : ℕ) → act_of p outcomes s n ≡ act_before p outcomes s n
  unfolding act_of act_before
  acts-before s n =
      ap (by_status (process_at s.config n).status) (frames-before s (process_at s.config n).frames)

  -- so the two machines are one
  one-machine : table_machine p outcomes ≡ machine_before p outcomes
  one-machine =
      λ i. record { act = λ s n. acts-before s n i; starts = started p; loses = frames_without; gets = push_top }

  pub ran-before : (room : ℕ) (schedule : List ℕ) → run p outcomes room schedule ≡ run_before p outcomes room schedule
  ran-before room schedule = ap (λ (m : MachineOf Frame). run_in m room schedule) one-machine

  passes-both : (i : ℕ) → is_outcome (get_or outcomes i 0) ≡ leb (get_or outcomes i 0) 1
  passes-both i =
      let small : get_or outcomes i 0 ≤ 1 = All-get_d (λ o. o ≤ 1) outcomes i 0 h (omega arith) in
      le-leb (get_or outcomes i 0) 2 (omega (arith, small)) ∙ sym (le-leb (get_or outcomes i 0) 1 small)

  pub asked-before : (schedule : List ℕ) (words : ℕ)
      → questions p schedule outcomes words ≡ questions_before p schedule outcomes words
  unfolding questions questions_before question6 question6_before
  asked-before schedule words =
      ap
      (λ (test : ℕ → Bool). and_then (table_questions p)
      (and_then (first_of 6 test (length outcomes)) (and_then (question7 schedule) (question8 words))))
      (λ i j. passes-both j i)

  pub answered-before : (schedule : List ℕ) (room words : ℕ)
      → answer_of p schedule outcomes room words ≡ answer_before p schedule outcomes room words
  unfolding answer_of answer_before
  answered-before schedule room words =
      ap₂ (λ (v : Verdict) (r : Result). unless_refused v r) (asked-before schedule words) (ran-before room schedule)

pub two-allowed : (question6_before (2 ∷ []) ≡ refused 6 0) × (question6 (2 ∷ []) ≡ accepted)
unfolding question6_before table-opened
two-allowed = (refl, refl)
