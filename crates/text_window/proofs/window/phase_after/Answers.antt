-- `phase_after`, effect by effect.
use Rattle.std.proofs.Common.{rules}
use mathlib.Core.Path.{refl}
use Rattle.text_effect.specs.EffectCode.{phase_in, effect_in}
use Rattle.text_expr.specs.LevelsCode.{phase_after, inside}
use Rattle.text_window.proofs.window.phase_after.Goals as goal

pub returns-in-Stay : goal.returns-in-Stay
unfolding effect_in phase_after
returns-in-Stay c = λ text. rw c.in-Stay.is refl

pub returns-in-OpensCall : goal.returns-in-OpensCall
unfolding phase_in effect_in phase_after inside
returns-in-OpensCall c = λ text. rw c.in-OpensCall.is refl

pub returns-in-Closes : goal.returns-in-Closes
unfolding phase_in effect_in phase_after
returns-in-Closes c = λ text. rw c.in-Closes.is refl

pub returns-in_default : goal.returns-in_default
unfolding phase_in effect_in phase_after inside
returns-in_default c = search rules
