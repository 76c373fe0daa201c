-- `holder_back` reads from line n - 1 backwards: none of the lines from `at` on decides.
use Prim.Native.Nat.{◌+◌, ◌-◌}
use mathlib.Core.Path.{◌≡◌}
use Rattle.trace.specs.Trace.{held, count_read}
use Rattle.trace.proofs.lookup.holder_back.Given as goal

abbrev pub invariant-loop-at : goal.invariant-loop-at
invariant-loop-at l = (held l.trace l.n l.q ≡ held l.trace l.at l.q)
    × (count_read l.trace l.n l.q ≡ (l.n - l.at) + count_read l.trace l.at l.q)
