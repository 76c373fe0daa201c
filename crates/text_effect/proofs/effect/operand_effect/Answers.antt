-- `operand_effect` by the kind of the token.
use mathlib.Core.Path.{refl}
use borrow.Author.Tests.{ne_eqb}
use Rattle.text_effect.specs.EffectCode.{token, effect_in, phase_in}
use Rattle.text_effect.proofs.EffectLaws.{operand-kinds}
use Rattle.text_effect.proofs.effect.operand_effect.Goals as goal

pub returns-then-kind-eq-NEW : goal.returns-then-kind-eq-NEW
unfolding effect_in phase_in
returns-then-kind-eq-NEW c = λ text h. rw (operand-kinds (token text c.args.t) c.args.t.kind h, c.if-kind-eq-NEW.true) refl

pub returns-then-kind : goal.returns-then-kind
unfolding effect_in phase_in
returns-then-kind c =
    λ text h. rw (
      operand-kinds (token text c.args.t) c.args.t.kind h,
      ne_eqb
          c.args.t.kind 8 c.if-kind-eq-NEW.false,
      c.if-kind.true,
    ) refl

pub returns-then-kind-eq-OPEN : goal.returns-then-kind-eq-OPEN
unfolding effect_in phase_in
returns-then-kind-eq-OPEN c = λ text h. rw (operand-kinds (token text c.args.t) c.args.t.kind h, c.if-kind-eq-OPEN.true) refl

pub returns-then-kind-eq-RECV : goal.returns-then-kind-eq-RECV
unfolding effect_in phase_in
returns-then-kind-eq-RECV c = λ text h. rw (operand-kinds (token text c.args.t) c.args.t.kind h, c.if-kind-eq-RECV.true) refl

pub returns-then-kind-eq-MEASURE : goal.returns-then-kind-eq-MEASURE
unfolding effect_in phase_in
returns-then-kind-eq-MEASURE c = λ text h. rw (operand-kinds (token text c.args.t) c.args.t.kind h, c.if-kind-eq-MEASURE.true) refl

pub returns-then-kind-eq-NAME : goal.returns-then-kind-eq-NAME
unfolding effect_in phase_in
returns-then-kind-eq-NAME c = λ text h. rw (operand-kinds (token text c.args.t) c.args.t.kind h, c.if-kind-eq-NAME.true) refl

pub returns : goal.returns
unfolding effect_in phase_in
returns c =
    λ text h. rw (
      operand-kinds (token text c.args.t) c.args.t.kind h,
      ne_eqb
          c.args.t.kind 8 c.if-kind-eq-NEW.false,
      c.if-kind.false,
      ne_eqb c.args.t.kind 19
          c.if-kind-eq-OPEN.false,
      ne_eqb c.args.t.kind 15 c.if-kind-eq-RECV.false,
      ne_eqb c.args.t.kind 9
          c.if-kind-eq-MEASURE.false,
      ne_eqb c.args.t.kind 33 c.if-kind-eq-NAME.false,
    ) refl
