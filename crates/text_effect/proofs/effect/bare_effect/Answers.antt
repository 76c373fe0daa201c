-- `bare_effect` by the kind of the token, the assignment and the bracket.
use mathlib.Core.Path.{refl, sym, ◌∙◌}
use borrow.Author.Tests.{not-true, not-false, ne_eqb}
use Rattle.text_expr.specs.LevelsCode.{action}
use Rattle.text_effect.specs.EffectCode.{token, effect_in, phase_in}
use Rattle.text_effect.proofs.EffectLaws.{bare-kinds}
use Rattle.text_effect.proofs.effect.bare_effect.Goals as goal

pub returns-then-not-is_operator : goal.returns-then-not-is_operator
unfolding effect_in phase_in action
returns-then-not-is_operator c =
    λ text scopes h. rw (
      bare-kinds (token text c.args.t) c.args.t.kind h
          c.args.assigning c.args.innermost,
      sym c.is_operator.ensures ∙ not-true _
          c.if-not-is_operator.true-raw,
    ) (c.ended_effect.ensures text h)

pub returns-then-assigning : goal.returns-then-assigning
unfolding effect_in phase_in action
returns-then-assigning c =
    λ text scopes h. rw (
      bare-kinds (token text c.args.t) c.args.t.kind h
          c.args.assigning c.args.innermost,
      sym c.is_operator.ensures ∙ not-false _
          c.if-not-is_operator.false-raw,
      c.if-assigning.true,
    ) refl

pub returns-then-innermost-eq-NO_BRACKET : goal.returns-then-innermost-eq-NO_BRACKET
unfolding effect_in phase_in action
returns-then-innermost-eq-NO_BRACKET c =
    λ text scopes h. rw (
      bare-kinds (token text c.args.t) c.args.t.kind h
          c.args.assigning c.args.innermost,
      sym c.is_operator.ensures ∙ not-false _
          c.if-not-is_operator.false-raw,
      c.if-assigning.false,
      c.if-innermost-eq-NO_BRACKET.true,
    ) refl

pub returns : goal.returns
unfolding effect_in phase_in action
returns c =
    λ text scopes h. rw (
      bare-kinds (token text c.args.t) c.args.t.kind h
          c.args.assigning c.args.innermost,
      sym c.is_operator.ensures ∙ not-false _
          c.if-not-is_operator.false-raw,
      c.if-assigning.false,
      ne_eqb c.args.innermost 0 c.if-innermost-eq-NO_BRACKET.false,
    ) refl
