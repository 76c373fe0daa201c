-- `ended_effect` by the kind of the token and the bracket.
use mathlib.Core.Path.{refl}
use borrow.Author.Tests.{ne_eqb}
use Rattle.text_effect.specs.EffectCode.{token, effect_in}
use Rattle.text_effect.proofs.EffectLaws.{ended-kinds}
use Rattle.text_effect.proofs.effect.ended_effect.Goals as goal

pub returns-then-innermost-eq-NO_BRACKET : goal.returns-then-innermost-eq-NO_BRACKET
unfolding effect_in
returns-then-innermost-eq-NO_BRACKET c =
    λ text h. rw (
      ended-kinds (token text c.args.t) c.args.t.kind h c.args.innermost,
      c.if-innermost-eq-NO_BRACKET.true,
    ) refl

pub returns-then-t-eq-CLOSE : goal.returns-then-t-eq-CLOSE
unfolding effect_in
returns-then-t-eq-CLOSE c =
    λ text h. rw (
      ended-kinds (token text c.args.t) c.args.t.kind h c.args.innermost,
      ne_eqb c.args.innermost 0 c.if-innermost-eq-NO_BRACKET.false,
      c.if-t-eq-CLOSE.true,
    ) refl

pub returns-then-innermost-t : goal.returns-then-innermost-t
unfolding effect_in
returns-then-innermost-t c =
    λ text h. rw (
      ended-kinds (token text c.args.t) c.args.t.kind h c.args.innermost,
      ne_eqb c.args.innermost 0 c.if-innermost-eq-NO_BRACKET.false,
      ne_eqb c.args.t.kind 20 c.if-t-eq-CLOSE.false,
      c.if-innermost-t.true,
    ) refl

pub returns : goal.returns
unfolding effect_in
returns c =
    λ text h. rw (
      ended-kinds (token text c.args.t) c.args.t.kind h c.args.innermost,
      ne_eqb c.args.innermost 0 c.if-innermost-eq-NO_BRACKET.false,
      ne_eqb c.args.t.kind 20 c.if-t-eq-CLOSE.false,
      c.if-innermost-t.false,
    ) refl
