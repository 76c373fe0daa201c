-- `judge` goes on where no instruction is at fault and no row is wanted.
use mathlib.Core.Path.{ap, sym, ◌∙◌}
use Rattle.check_types.specs.PendingCode.{result_in}
use native.Mathlib.Omega.{arith}
use Rattle.lists.proofs.Tests.{never}
use Rattle.text_judge.proofs.Resuming.{next-right}
use Rattle.text_judge.proofs.marked.Marked.judge.Goals as goal

pub loop-i-preserved : goal.loop-i-preserved
loop-i-preserved c = λ f k r.
    c.judge_next-pending.ensures f k
    ∙ next-right _ _ _ (ap result_in (sym c.in-Some.is) ∙ c.loop-i.invariant f k r)

pub returns-in_default : goal.returns-in_default
returns-in_default c = record {
  later = c.loop-i.auto.i;
  within = omega (arith, c.loop-i-test.true);
  stops = λ l some. absurd (never (rw c.in_default.is at some));
  right = c.loop-i.invariant;
}
