-- `judge_all` goes on from call to call.
use Prim.Native.Nat.{◌-◌}
use Rattle.text_judged.specs.JudgedCode.{UpTo}
use Rattle.text_judged.proofs.method.judge_all.Given as goal

abbrev pub invariant-loop-j : goal.invariant-loop-j
invariant-loop-j l = UpTo l.text l.code l.m.code.now l.m.own.now l.m.n l.j

abbrev pub decreases-loop-j : goal.decreases-loop-j
decreases-loop-j l = l.m.n.long - l.j.at
