-- `ending` asks one process after the other: none of the first j can move, and end says whether one of them waits.
use mathlib.Core.Bool.{false, cond}
use mathlib.Core.Path.{◌≡◌}
use Rattle.run_ability.specs.EndingCode.{some_is}
use Rattle.run_ability.specs.declared.ends.End.TheVariants.{AllOver, NoneAble}
use Rattle.run_ability.proofs.ending.ending.Given as goal

abbrev pub invariant-loop-j : goal.invariant-loop-j
invariant-loop-j l = (some_is l.p l.work l.t 1 l.j ≡ false) × (l.end ≡ cond (some_is l.p l.work l.t 2 l.j) NoneAble AllOver)
