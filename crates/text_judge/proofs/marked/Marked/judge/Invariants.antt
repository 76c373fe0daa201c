-- `judge` goes on where no instruction is at fault and no row is wanted.
use Prim.Native.Nat.{ℕ}
use mathlib.Core.Path.{◌≡◌}
use mathlib.Core.List.{List}
use Rattle.check_types.specs.PendingCode.{result_in}
use Rattle.text_judge.specs.RowsCode.{judged_to}
use Rattle.text_judge.specs.JudgeCode.{subject_in, Knows}
use Rattle.text_judge.proofs.marked.Marked.judge.Given as goal

abbrev pub invariant-loop-i : goal.invariant-loop-i
invariant-loop-i l =
    (f : ℕ → List ℕ) → Knows f l.rows l.self.n → result_in l.initial.pending ≡ judged_to (subject_in l.self.code.now l.self.own.now l.self.n f) l.initial.i
    → result_in l.pending ≡ judged_to (subject_in l.self.code.now l.self.own.now l.self.n f) l.i
