-- Paper 3, of what `run` leaves in the lent buffers: "A run without any 2 gives what it gave before." Its answer is
-- `answered-before` (crate machine, proofs/NoClick.antt).
use Prim.Native.Nat.{ℕ}
use mathlib.Core.Path.{◌≡◌, ap₂}
use mathlib.Core.List.{List}
use lib.ListN.{length}
use Rattle.table.specs.Questions.{Verdict}
use Rattle.machine.specs.Run.{Result}
use Rattle.machine.specs.Answer.{lines_in, trace_after}
use Rattle.machine.proofs.NoClick.{NoTwo, ran-before, asked-before}
use Rattle.layout.specs.Holders.{store_after}
use Rattle.run.specs.Answers.{kept_if_refused, trace_left, store_left}
use Rattle.run.specs.Before.{trace_before, store_before}

module _ (p outcomes : List ℕ) (h : NoTwo outcomes) (schedule trace work : List ℕ) where
  pub trace-before : trace_left p schedule outcomes trace work ≡ trace_before p schedule outcomes trace work
  unfolding trace_left trace_before
  trace-before =
      ap₂ (λ (v : Verdict) (r : Result). kept_if_refused v trace (trace_after r.state.lines trace))
      (asked-before p outcomes h schedule (length work)) (ran-before p outcomes h (lines_in (length trace)) schedule)

  pub store-before : store_left p schedule outcomes trace work ≡ store_before p schedule outcomes trace work
  unfolding store_left store_before
  store-before =
      ap₂ (λ (v : Verdict) (r : Result). kept_if_refused v work (store_after r.state work))
      (asked-before p outcomes h schedule (length work)) (ran-before p outcomes h (lines_in (length trace)) schedule)
