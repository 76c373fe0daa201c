-- `carried_effect` by the kind of the token.
use mathlib.Core.Path.{sym, ap, ◌∙◌}
use Rattle.text_expr.specs.PhasesCode.{new₄}
use Rattle.text_expr.specs.LevelsCode.{must_action, action}
use Rattle.text_effect.specs.EffectCode.{token, phase_in}
use Rattle.text_effect.proofs.EffectLaws.{carried-kinds}
use Rattle.text_effect.proofs.effect.carried_effect.Goals as goal

pub returns : goal.returns
unfolding phase_in action
returns c =
    λ text scopes a b h. c.must_effect.ensures text ∙ ap (λ x. must_action x new₄ (token text c.args.t))
    (sym (carried-kinds (token text c.args.t) c.args.t.kind h))
