-- `to_call` judges up to the first call.
use native.Mathlib.Omega.{arith}
use Rattle.text_judged.proofs.Stepping.{at-hand, up-to-call}
use Rattle.text_judged.proofs.method.to_call.Goals as goal

pub judge-requires : goal.judge-requires
judge-requires c = (at-hand _ _ c.requires.known, omega (arith, c.begin.ensures.0))

pub returns : goal.returns
returns c = up-to-call _ _ _ _ _ c.requires _ _ _ c.begin.ensures.1 c.judge.ensures
