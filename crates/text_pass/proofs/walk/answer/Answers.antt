-- `answer`, effect by effect.
use Rattle.std.proofs.Common.{rules}
use mathlib.Core.Path.{refl}
use Rattle.text_pass.specs.WalkCode.{answer_of}
use Rattle.text_pass.proofs.walk.answer.Goals as goal

pub returns-in-Astray : goal.returns-in-Astray
unfolding answer_of
returns-in-Astray c = rw c.in-Astray.is refl

pub returns-in_default : goal.returns-in_default
unfolding answer_of
returns-in_default c = search rules
