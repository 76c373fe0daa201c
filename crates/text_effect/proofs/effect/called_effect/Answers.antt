-- `called_effect` by the kind of the token.
use mathlib.Core.Path.{refl}
use borrow.Author.Tests.{ne_eqb}
use Rattle.text_tokens.proofs.KindTests.{is-close}
use Rattle.text_expr.specs.LevelsCode.{action}
use Rattle.text_effect.specs.EffectCode.{token, effect_in, phase_in}
use Rattle.text_effect.proofs.EffectLaws.{by_kind}
use Rattle.text_effect.proofs.effect.called_effect.Goals as goal

pub returns-then-t-eq-CLOSE : goal.returns-then-t-eq-CLOSE
unfolding effect_in phase_in action
returns-then-t-eq-CLOSE c =
    λ text scopes a b h. rw (
      by_kind (token text c.args.t) c.args.t.kind h _ 20
          (is-close (token text c.args.t)),
      c.if-t-eq-CLOSE.true,
    ) refl

pub returns : goal.returns
unfolding phase_in action
returns c =
    λ text scopes a b h. rw (
      by_kind (token text c.args.t) c.args.t.kind h _ 20
          (is-close (token text c.args.t)),
      ne_eqb c.args.t.kind 20 c.if-t-eq-CLOSE.false,
    )
    (c.operand_effect.ensures text h)
