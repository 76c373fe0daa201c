-- `must_effect` by its test.
use mathlib.Core.Path.{refl}
use Rattle.text_expr.specs.LevelsCode.{must_action}
use Rattle.text_effect.specs.EffectCode.{effect_in}
use Rattle.text_effect.proofs.effect.must_effect.Goals as goal

pub returns-then-ok : goal.returns-then-ok
unfolding effect_in must_action
returns-then-ok c = λ text. rw c.if-ok.true refl

pub returns : goal.returns
unfolding effect_in must_action
returns c = λ text. rw c.if-ok.false refl
