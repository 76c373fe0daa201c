-- `named_effect` by the kind of the token.
use mathlib.Core.Path.{refl, sym, ◌∙◌}
use borrow.Author.Tests.{ne_eqb}
use Rattle.text_effect.specs.EffectCode.{token, effect_in}
use Rattle.text_effect.proofs.EffectLaws.{named-kinds}
use Rattle.text_effect.proofs.effect.named_effect.Goals as goal

pub returns-then-withends : goal.returns-then-withends
unfolding effect_in
returns-then-withends c =
    λ text scopes h e. rw (
      named-kinds (token text c.args.t) c.args.t.kind h scopes _ _,
      c.if-t-eq-ASSIGN.true,
      sym (e _ _ refl c.if-t-eq-ASSIGN.true) ∙ c.if-withends.true,
    ) refl

pub returns-then-t-eq-ASSIGN : goal.returns-then-t-eq-ASSIGN
unfolding effect_in
returns-then-t-eq-ASSIGN c =
    λ text scopes h e. rw (
      named-kinds (token text c.args.t) c.args.t.kind h scopes _ _,
      c.if-t-eq-ASSIGN.true,
      sym (e _ _ refl c.if-t-eq-ASSIGN.true) ∙ c.if-withends.false,
    ) refl

pub returns-then-t-eq-OPEN : goal.returns-then-t-eq-OPEN
unfolding effect_in
returns-then-t-eq-OPEN c =
    λ text scopes h e. rw (
      named-kinds (token text c.args.t) c.args.t.kind h scopes _ _,
      c.if-t-eq-OPEN.true,
    ) refl

pub returns : goal.returns
returns c =
    λ text scopes h e. rw (
      named-kinds (token text c.args.t) c.args.t.kind h scopes _ _,
      ne_eqb
          c.args.t.kind 29 c.if-t-eq-ASSIGN.false,
      ne_eqb c.args.t.kind 19 c.if-t-eq-OPEN.false,
    )
    (c.whole_effect.ensures text h)
