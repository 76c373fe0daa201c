-- The answer and the trace that a run leaves, as text, are the text of the run.
use Prim.Native.Nat.{ℕ, ◌≤◌}
use mathlib.Core.Path.{◌≡◌, refl, ◌∙◌, ap, ap₂}
use mathlib.Core.List.{List, ◌++◌, append_assoc}
use native.Mathlib.Omega.{arith}
use lib.ListN.{take, length}
use Rattle.table.specs.Questions.{Verdict, accepted, refused, questions}
use Rattle.machine.specs.State.{Line}
use Rattle.machine.specs.Run.{Result, run}
use Rattle.machine.specs.Answer.{Answer, ran, result_answer, answer_of, lines_in, trace_after}
use Rattle.machine.specs.Answer as machine
use Rattle.trace.specs.Trace.{lines_of}
use Rattle.print_format.specs.Format.{lines_text, answer_text, run_text}
use Rattle.lists.specs.Lists.{put_from}
use Rattle.print_lines.specs.TextsCode.{end_text}
use Rattle.lists.proofs.Put.{Put}
use Rattle.run.specs.Answers.{kept_if_refused, trace_left}
use Rattle.run.specs.Answers.{lines_no}
use Rattle.print_text.proofs.Fitting.{lines_fit, lines-held, lines-read}

-- what a function here ensures: this text is put from the buffer's start, and the answer is its length
abbrev pub Prints : List ℕ → List ℕ → List ℕ → ℕ → Type 0
Prints out text out' r = (out' ≡ put_from out 0 text) × (r ≡ length text)

pub from_start : (out text : List ℕ) {out' : List ℕ} {r : ℕ} → Put out 0 text out' r → Prints out text out' r
from_start out text (p, q) = (p, omega (arith, q))

-- the same text under another name
pub prints-same : (out : List ℕ) {xs ys out' : List ℕ} {r : ℕ} → xs ≡ ys → Prints out xs out' r → Prints out ys out' r
prints-same out e (p, q) = (p ∙ ap (put_from out 0) e, q ∙ ap length e)

pub ran-text : (ls : List Line) (e k l o : ℕ) → lines_text ls ++ end_text e k l o ≡ answer_text ls (ran e k l o)
unfolding end_text answer_text
ran-text ls e k l o = simp append_assoc

-- the answer speaks of no more lines than the trace holds, and with these lines it is the text of the run
pub record Printable (p schedule outcomes : List ℕ) (a : Answer) (trace : List ℕ) : Type 0 where
  pub few : lines_no a ≤ 4096
  pub held : lines_no a ≤ length (lines_of trace)
  pub text : answer_text (take (lines_no a) (lines_of trace)) a ≡ run_text p schedule outcomes

module _ (p schedule outcomes trace work : List ℕ) (t : length trace ≡ 24576) (w : length work ≡ 8256) where
  abbrev room : ℕ
  room = lines_in (length trace)

  abbrev result : Result
  result = run p outcomes room schedule

  -- by the questions' verdict
  abbrev AsAsked : Verdict → Type 0
  AsAsked v =
      let a = machine.unless_refused v result in
      let left = kept_if_refused v trace (trace_after result.state.lines trace) in
      (lines_no a ≤ room) × (lines_no a ≤ length (lines_of left))
      × (answer_text (take (lines_no a) (lines_of left)) a ≡ answer_text result.state.lines a)

  as-asked : (v : Verdict) → AsAsked v
  unfolding machine.unless_refused result_answer kept_if_refused lines_no answer_text
  as-asked accepted = (
    lines_fit p outcomes room schedule,
    lines-held result.state.lines trace,
    ap (λ (ls : List Line). answer_text ls (result_answer result)) (lines-read result.state.lines trace),
  )
  as-asked (refused n i) = (omega arith, omega arith, refl)

  pub printable : {a : Answer} {after : List ℕ} → a ≡ answer_of p schedule outcomes room (length work)
      → after ≡ trace_left p schedule outcomes trace work → Printable p schedule outcomes a after
  unfolding answer_of trace_left run_text
  printable {a} {after} e f =
      let lines : room ≡ 4096 = omega (arith, t) in
      let (few, held, text) = as-asked (questions p schedule outcomes (length work)) in record {
        few = rw e (omega (arith, few, lines));
        held = rw (e, f) held;
        text =
            rw (e, f)
            (text
            ∙ ap₂ (λ (m n : ℕ). answer_text (run p outcomes m schedule).state.lines (answer_of p schedule outcomes m n))
            lines w);
      }
