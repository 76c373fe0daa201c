-- `new_operator_step`: an assignment is open, or the expression has ended.
use mathlib.Core.Bool.{false}
use mathlib.Core.Path.{sym, ◌∙◌}
use Rattle.text_emit_expr.proofs.EndedSteps.{new-last, new_then, flushed, token-after, new-over, put-stands, put-leads, put-place, put-at, last-steps, join-steps, steps-same, operator-steps, put_some}
use Rattle.text_emit_expr.proofs.ended.new_operator_step.Goals as goal

pub returns-then-e-eq4 : goal.returns-then-e-eq4
returns-then-e-eq4 c =
    let g = c.args in
    let text = g.text.now in
    let p = g.pending.now in
    λ scope n. new-last text scope n p g.code.now g.s g.t c.requires.2 _ _ c.requires.1
    c.flush-e.ensures c.if-e-eq4.true

pub top-requires : goal.top-requires
top-requires c =
    let g = c.args in
    let text = g.text.now in
    let p = g.pending.now in
    (c.flush-e.ensures.stands text c.requires.0).few

pub pop-u-requires : goal.pop-u-requires
pop-u-requires c =
    let g = c.args in
    let text = g.text.now in
    let p = g.pending.now in (
      put_some p c.flush-e.result (sym c.top.ensures ∙ c.if-top-eq4.true),
      (c.flush-e.ensures.stands text c.requires.0).few,
    )

pub returns-then-u-eq4 : goal.returns-then-u-eq4
returns-then-u-eq4 c =
    let g = c.args in
    let text = g.text.now in
    let p = g.pending.now in
    let going = flushed p g.code.now g.s false _ c.flush-e.result c.flush-e.ensures
    c.if-e-eq4.false in
    let four = sym c.top.ensures ∙ c.if-top-eq4.true in
    let n₁ = token-after text g.t _ _ c.flush-e.ensures.at c.requires.2 in
    λ scope n. new_then text scope n p g.code.now g.s g.t c.requires.2 _ _ c.requires.1
    c.flush-e.ensures _ _ _
    (last-steps text scope n p _ c.flush-e.result p _ _
    (put-stands text scope n p _ c.flush-e.result g.t n₁ _ _ going.0 four c.pop-u.ensures)
    (put-leads text scope n p _ c.flush-e.result g.t n₁ _ _ going.0 four c.pop-u.ensures)
    (put-place text scope n p _ c.flush-e.result g.t n₁ _ _ going.0 four c.pop-u.ensures)
    c.if-u-eq4.true)

pub returns-then-top-eq4 : goal.returns-then-top-eq4
returns-then-top-eq4 c =
    let g = c.args in
    let text = g.text.now in
    let p = g.pending.now in
    let going = flushed p g.code.now g.s false _ c.flush-e.result c.flush-e.ensures
    c.if-e-eq4.false in
    let four = sym c.top.ensures ∙ c.if-top-eq4.true in
    let n₁ = token-after text g.t _ _ c.flush-e.ensures.at c.requires.2 in
    let at = put-at text g.text.now 0 p _ c.flush-e.result g.t n₁ _ _ going.0 four
    c.pop-u.ensures c.if-u-eq4.false in
    λ scope n. new_then text scope n p g.code.now g.s g.t c.requires.2 _ _ c.requires.1
    c.flush-e.ensures _ _ _
    (join-steps text scope n p _ c.flush-e.result p _ _
    (put-stands text scope n p _ c.flush-e.result g.t n₁ _ _ going.0 four c.pop-u.ensures)
    (put-leads text scope n p _ c.flush-e.result g.t n₁ _ _ going.0 four c.pop-u.ensures)
    at.1 _ _ _
    (operator-steps text scope n p _ c.pop-u.result g.t (token-after text g.t _ _ at.1 n₁) _ _ g.op
    at.0
    c.requires.3 c.requires.4 c.push.ensures))

pub returns : goal.returns
returns c =
    let g = c.args in
    let text = g.text.now in
    let p = g.pending.now in
    let going = flushed p g.code.now g.s false _ c.flush-e.result c.flush-e.ensures
    c.if-e-eq4.false in
    λ scope n. new_then text scope n p g.code.now g.s g.t c.requires.2 _ _ c.requires.1
    c.flush-e.ensures _ _ _
    (steps-same _ _ c.gone.ensures
    (new-over text scope n p _ c.flush-e.result g.t (token-after text g.t _ _
    c.flush-e.ensures.at c.requires.2)
    going.0 (λ z. c.requires.4 (c.requires.3 ∙ z)) going.1 (λ z. c.if-top-eq4.false
    (c.top.ensures ∙ z))))
