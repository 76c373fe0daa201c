-- `whole_effect` by the kind of the token.
use mathlib.Core.Path.{refl, sym, ◌∙◌}
use Rattle.text_effect.specs.EffectCode.{token, effect_in, phase_in}
use Rattle.text_effect.proofs.EffectLaws.{whole_kinds}
use Rattle.text_effect.proofs.effect.whole_effect.Goals as goal

pub returns-then-is_operator : goal.returns-then-is_operator
unfolding effect_in phase_in
returns-then-is_operator c =
    λ text h. rw (
      whole_kinds (token text c.args.t) c.args.t.kind h _,
      sym
          c.is_operator.ensures ∙ c.if-is_operator.true,
    ) refl

pub returns : goal.returns
returns c =
    λ text h. rw (
      whole_kinds (token text c.args.t) c.args.t.kind h _,
      sym
          c.is_operator.ensures ∙ c.if-is_operator.false,
    ) (c.ended_effect.ensures text h)
