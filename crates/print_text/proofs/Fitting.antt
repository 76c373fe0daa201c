-- The lines of a run fit its trace, and are read back from it.
use Prim.Native.Nat.{ℕ, suc, ◌+◌, ◌≤◌}
use mathlib.Core.Path.{◌≡◌, ◌∙◌}
use mathlib.Core.Bool.{true}
use mathlib.Core.List.{List, [], ◌∷◌}
use native.Mathlib.Omega.{arith}
use borrow.Author.Tests.{leb-true}
use lib.ListN.{take, drop, length, length-append}
use lib.Seq.{ext_get_or, get_or-take, length-take-le}
use Rattle.lists.proofs.Tests.{cond_both, cond-each}
use Rattle.machine.specs.State.{Line, State, start, start_with}
use Rattle.machine.specs.Entry.{effect_of}
use Rattle.machine.specs.Owner.{no_line}
use Rattle.machine.specs.Run.{Result, all_over, none_able, fits, after_effect, run_from, run, run_from_in, run_in}
use Rattle.machine.specs.Answer.{trace_words, trace_after}
use Rattle.trace.specs.Trace.{lines_of}
use Rattle.trace.proofs.LinesOf.{lines_of-length, lines_of-at}
use Rattle.trace_lines.proofs.LineWritten.{trace-length}
use Rattle.run_holders.proofs.Holding.{trace-line}

-- the lines after an entry that fits
taken : (p outcomes : List ℕ) (room : ℕ) (s : State) (k n : ℕ) → fits room s (effect_of p outcomes k s n) ≡ true
    → length (after_effect s (effect_of p outcomes k s n)).lines ≤ room
unfolding fits after_effect
taken p outcomes room s k n e =
    let ls = (effect_of p outcomes k s n).lines in
    omega (arith, leb-true (length s.lines + length ls) room e, length-append s.lines ls)

-- an entry whose lines do not fit is not taken
from-fits : (p outcomes : List ℕ) (room : ℕ) (s : State) (k : ℕ) (schedule : List ℕ) → length s.lines ≤ room
    → length (run_from p outcomes room s k schedule).state.lines ≤ room
unfolding run_from_in
from-fits p outcomes room s k [] h = cond_both Fine (all_over s) h (cond_both Fine (none_able p outcomes s) h h)
  where
    Fine : Result → Type 0
    Fine r = length r.state.lines ≤ room
from-fits p outcomes room s k (n ∷ schedule) h =
    cond_both Fine (all_over s) h
    (cond_both Fine (none_able p outcomes s) h
    (cond-each Fine (fits room s (effect_of p outcomes k s n))
    (λ e. from-fits p outcomes room (after_effect s (effect_of p outcomes k s n)) (suc k) schedule
    (taken p outcomes room s k n e))
    (λ e. h)))
  where
    Fine : Result → Type 0
    Fine r = length r.state.lines ≤ room

pub lines_fit : (p outcomes : List ℕ) (room : ℕ) (schedule : List ℕ)
    → length (run p outcomes room schedule).state.lines ≤ room
unfolding run_in start_with
lines_fit p outcomes room schedule = from-fits p outcomes room (start p) 0 schedule (omega arith)

-- the trace after a run has room for its lines, and they are its first
module _ (ls : List Line) (trace : List ℕ) where
  pub lines-held : length ls ≤ length (lines_of (trace_after ls trace))
  unfolding trace_after
  lines-held =
      omega (
        arith,
        lines_of-length (trace_after ls trace),
        length-append (trace_words ls) (drop (length (trace_words ls)) trace),
        trace-length ls,
      )

  pub lines-read : take (length ls) (lines_of (trace_after ls trace)) ≡ ls
  lines-read =
      let all = lines_of (trace_after ls trace) in
      let size = length-take-le (length ls) all lines-held in
      ext_get_or no_line (take (length ls) all) ls size
      (λ i h. get_or-take (length ls) all i no_line (omega arith)
      ∙ lines_of-at (trace_after ls trace) i (omega (arith, lines-held))
      ∙ trace-line ls trace i (omega arith))
