-- The answer and the buffers at the end of `run`, from the questions' verdict and from what an accepted run leaves.
use Prim.Native.Nat.{ℕ}
use mathlib.Core.Path.{◌≡◌, refl, sym, ◌∙◌, ap}
use mathlib.Core.List.{List}
use lib.ListN.{length}
use Rattle.table.specs.Questions.{Verdict, accepted, refused, questions}
use Rattle.machine.specs.Run.{run}
use Rattle.machine.specs.Answer.{refusal, ran, result_answer, answer_of, lines_in, trace_after}
use Rattle.machine.specs.Answer as machine
use Rattle.layout.specs.Holders.{store_after}
use Rattle.run_ability.specs.EndNumbers.{end_number}
use Rattle.run_schedule.specs.declared.entries.RunSummary.{RunSummary}
use Rattle.run_schedule.specs.SummaryCode.{AfterRun, after_run, run_leaves}
use Rattle.run.specs.Answers.{kept_if_refused, trace_left, store_left}

module _ (p schedule outcomes trace work : List ℕ) where
  abbrev verdict : Verdict
  verdict = questions p schedule outcomes (length work)

  pub refuses : {n i : ℕ} → refused n i ≡ verdict
      → (refusal n i ≡ answer_of p schedule outcomes (lines_in (length trace)) (length work))
      × (trace ≡ trace_left p schedule outcomes trace work) × (work ≡ store_left p schedule outcomes trace work)
  unfolding answer_of machine.unless_refused trace_left store_left kept_if_refused
  refuses e = rw (← e) (refl, refl, refl)

  pub ran-so : (o : RunSummary) {trace' work' : List ℕ} → verdict ≡ accepted
      → after_run o trace' work' ≡ run_leaves (run p outcomes (lines_in (length trace)) schedule) trace work
      → (ran (end_number o.end) o.entries o.lines o.used ≡ answer_of p schedule outcomes (lines_in (length trace))
      (length work))
      × (trace' ≡ trace_left p schedule outcomes trace work) × (work' ≡ store_left p schedule outcomes trace work)
  unfolding answer_of result_answer machine.unless_refused trace_left store_left kept_if_refused run_leaves
  ran-so o ok e = (
    ap (λ (l : AfterRun). ran l.end l.entries l.lines l.used) e
        ∙ sym (ap (λ (x : Verdict). machine.unless_refused x (run p outcomes (lines_in (length trace)) schedule)) ok),
    ap (λ (l : AfterRun). l.trace) e
        ∙ sym
        (ap (λ (x : Verdict). kept_if_refused x trace (trace_after
        (run p outcomes (lines_in (length trace)) schedule).state.lines trace)) ok),
    ap (λ (l : AfterRun). l.work) e
        ∙ sym
        (ap (λ (x : Verdict). kept_if_refused x work (store_after
        (run p outcomes (lines_in (length trace)) schedule).state work)) ok),
  )
