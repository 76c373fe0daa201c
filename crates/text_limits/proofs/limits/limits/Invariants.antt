-- `limits` judges one method after the other.
use Prim.Native.Nat.{◌≤◌}
use Rattle.text_limits.specs.LimitsCode.{WellNamed}
use Rattle.text_limits.specs.MeasuresCode.{Progress}
use Rattle.text_limits.proofs.limits.limits.Given as goal

abbrev pub invariant-loop-k : goal.invariant-loop-k
invariant-loop-k l = (l.k ≤ 32) × (l.total ≤ 4096)
    × ((w : WellNamed l.methods.text.now) → Progress l.methods.text.now w.program l.at l.k l.total l.lengths l.rows l.kept)
