-- `alloc_effect` by the kind of the token.
use mathlib.Core.Path.{refl}
use borrow.Author.Tests.{ne_eqb}
use Rattle.text_effect.specs.EffectCode.{token, effect_in, phase_in}
use Rattle.text_effect.proofs.EffectLaws.{alloc-kinds}
use Rattle.text_effect.proofs.effect.alloc_effect.Goals as goal

pub returns-then-kind-eq-QBIT : goal.returns-then-kind-eq-QBIT
unfolding effect_in phase_in
returns-then-kind-eq-QBIT c = λ text h. rw (alloc-kinds (token text c.args.t) c.args.t.kind h, c.if-kind-eq-QBIT.true) refl

pub returns-then-kind : goal.returns-then-kind
unfolding effect_in phase_in
returns-then-kind c =
    λ text h. rw (
      alloc-kinds (token text c.args.t) c.args.t.kind h,
      ne_eqb
          c.args.t.kind 3 c.if-kind-eq-QBIT.false,
      c.if-kind.true,
    ) refl

pub returns : goal.returns
unfolding effect_in phase_in
returns c =
    λ text h. rw (
      alloc-kinds (token text c.args.t) c.args.t.kind h,
      ne_eqb
          c.args.t.kind 3 c.if-kind-eq-QBIT.false,
      c.if-kind.false,
    ) refl
