-- `recv_effect` by the kind of the token.
use mathlib.Core.Path.{refl}
use borrow.Author.Tests.{ne_eqb}
use Rattle.text_tokens.proofs.KindTests.{is_open}
use Rattle.text_expr.specs.LevelsCode.{action}
use Rattle.text_effect.specs.EffectCode.{token, effect_in, phase_in}
use Rattle.text_effect.proofs.EffectLaws.{by_kind}
use Rattle.text_effect.proofs.effect.recv_effect.Goals as goal

pub returns-then-t-eq-OPEN : goal.returns-then-t-eq-OPEN
unfolding effect_in phase_in action
returns-then-t-eq-OPEN c =
    λ text scopes a b h. rw (
      by_kind (token text c.args.t) c.args.t.kind h _ 19
          (is_open (token text c.args.t)),
      c.if-t-eq-OPEN.true,
    ) refl

pub returns : goal.returns
unfolding effect_in phase_in action
returns c =
    λ text scopes a b h. rw (
      by_kind (token text c.args.t) c.args.t.kind h _ 19
          (is_open (token text c.args.t)),
      ne_eqb c.args.t.kind 19 c.if-t-eq-OPEN.false,
    ) refl
