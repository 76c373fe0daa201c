-- `effect_of`, phase by phase.
use mathlib.Core.Path.{sym, ap, ◌∙◌}
use Rattle.text_tokens.proofs.KindTests.{is_open, is-close, is-comma, is-name, is-open-bracket, is-close-bracket}
use Rattle.text_expr.specs.PhasesCode.{whole, bare, measure₂, measure₃, measure₄, measure₅, new₃, new₅, new₆}
use Rattle.text_expr.specs.LevelsCode.{must_action, action}
use Rattle.text_effect.specs.EffectCode.{token, phase_in, bracket_in}
use Rattle.text_effect.proofs.EffectLaws.{by_kind}
use Rattle.text_effect.proofs.effect.effect_of.Goals as goal

pub returns-in-Operand : goal.returns-in-Operand
unfolding phase_in action
returns-in-Operand c = λ scopes h e. rw c.in-Operand.is (c.operand_effect.ensures _ h)

pub returns-in-Whole : goal.returns-in-Whole
unfolding phase_in action
returns-in-Whole c = λ scopes h e. rw c.in-Whole.is (c.whole_effect.ensures _ h)

pub returns-in-Bare : goal.returns-in-Bare
unfolding phase_in action
returns-in-Bare c = λ scopes h e. rw c.in-Bare.is (c.bare_effect.ensures _ scopes h)

pub returns-in-Named : goal.returns-in-Named
unfolding phase_in action
returns-in-Named c =
    λ scopes h e. rw c.in-Named.is (c.named_effect.ensures _ scopes h
    (λ s d q k. e s d (c.in-Named.is ∙ q) k))

pub returns-in-Called : goal.returns-in-Called
unfolding phase_in action
returns-in-Called c =
    λ scopes h e. rw c.in-Called.is
    (c.called_effect.ensures _ scopes c.args.assigning (bracket_in c.args.innermost) h)

pub returns-in-Recv1 : goal.returns-in-Recv1
unfolding phase_in action
returns-in-Recv1 c =
    λ scopes h e. rw c.in-Recv1.is
    (c.recv_effect.ensures _ scopes c.args.assigning (bracket_in c.args.innermost) h)

pub returns-in-Measure1 : goal.returns-in-Measure1
unfolding phase_in action
returns-in-Measure1 c =
    λ scopes h e. rw c.in-Measure1.is
    (c.must_effect.ensures _ ∙ ap (λ b. must_action b measure₂ (token c.args.text.now c.args.t))
    (sym (by_kind (token c.args.text.now c.args.t) c.args.t.kind h _ 19
    (is_open (token c.args.text.now c.args.t)))))

pub returns-in-Measure2 : goal.returns-in-Measure2
unfolding phase_in action
returns-in-Measure2 c =
    λ scopes h e. rw c.in-Measure2.is
    (c.must_effect-in-Measure2.ensures _ ∙ ap (λ b. must_action b measure₃
    (token c.args.text.now c.args.t)) c.is_std_basis.ensures)

pub returns-in-Measure3 : goal.returns-in-Measure3
unfolding phase_in action
returns-in-Measure3 c =
    λ scopes h e. rw c.in-Measure3.is
    (c.must_effect-in-Measure3.ensures _ ∙ ap (λ b. must_action b measure₄
    (token c.args.text.now c.args.t))
    (sym (by_kind (token c.args.text.now c.args.t) c.args.t.kind h _ 25
    (is-comma (token c.args.text.now c.args.t)))))

pub returns-in-Measure4 : goal.returns-in-Measure4
unfolding phase_in action
returns-in-Measure4 c =
    λ scopes h e. rw c.in-Measure4.is
    (c.must_effect-in-Measure4.ensures _ ∙ ap (λ b. must_action b measure₅
    (token c.args.text.now c.args.t))
    (sym (by_kind (token c.args.text.now c.args.t) c.args.t.kind h _ 33
    (is-name (token c.args.text.now c.args.t)))))

pub returns-in-Measure5 : goal.returns-in-Measure5
unfolding phase_in action
returns-in-Measure5 c =
    λ scopes h e. rw c.in-Measure5.is
    (c.must_effect-in-Measure5.ensures _ ∙ ap (λ b. must_action b whole (token c.args.text.now c.args.t))
    (sym (by_kind (token c.args.text.now c.args.t) c.args.t.kind h _ 20
    (is-close (token c.args.text.now c.args.t)))))

pub returns-in-New1 : goal.returns-in-New1
unfolding phase_in action
returns-in-New1 c = λ scopes h e. rw c.in-New1.is (c.alloc_effect.ensures _ h)

pub returns-in-New2 : goal.returns-in-New2
unfolding phase_in action
returns-in-New2 c =
    λ scopes h e. rw c.in-New2.is
    (c.must_effect-in-New2.ensures _ ∙ ap (λ b. must_action b new₃ (token c.args.text.now c.args.t))
    (sym (by_kind (token c.args.text.now c.args.t) c.args.t.kind h _ 23
    (is-open-bracket (token c.args.text.now c.args.t)))))

pub returns-in-New3 : goal.returns-in-New3
unfolding phase_in action
returns-in-New3 c =
    λ scopes h e. rw c.in-New3.is
    (c.carried_effect.ensures _ scopes c.args.assigning (bracket_in c.args.innermost) h)

pub returns-in-New4 : goal.returns-in-New4
unfolding phase_in action
returns-in-New4 c =
    λ scopes h e. rw c.in-New4.is
    (c.must_effect-in-New4.ensures _ ∙ ap (λ b. must_action b new₅ (token c.args.text.now c.args.t))
    (sym (by_kind (token c.args.text.now c.args.t) c.args.t.kind h _ 24
    (is-close-bracket (token c.args.text.now c.args.t)))))

pub returns-in-New5 : goal.returns-in-New5
unfolding phase_in action
returns-in-New5 c =
    λ scopes h e. rw c.in-New5.is
    (c.must_effect-in-New5.ensures _ ∙ ap (λ b. must_action b new₆ (token c.args.text.now c.args.t))
    (sym (by_kind (token c.args.text.now c.args.t) c.args.t.kind h _ 19
    (is_open (token c.args.text.now c.args.t)))))

pub returns-in-New6 : goal.returns-in-New6
unfolding phase_in action
returns-in-New6 c =
    λ scopes h e. rw c.in-New6.is
    (c.must_effect-in-New6.ensures _ ∙ ap (λ b. must_action b bare (token c.args.text.now c.args.t))
    (sym (by_kind (token c.args.text.now c.args.t) c.args.t.kind h _ 20
    (is-close (token c.args.text.now c.args.t)))))
