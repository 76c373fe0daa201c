-- `close_step`: a call or recv, a plain bracket, or none of this expression.
use Rattle.text_emit_expr.specs.EndsCode.{Steps}
use mathlib.Core.Path.{sym, subst}
use Rattle.text_emit_expr.proofs.EndedSteps.{close-over, close-pop, close-bracket-steps, which-of, which-not, topped-some}
use Rattle.text_emit_expr.proofs.ended.close_step.Goals as goal

pub pop-requires : goal.pop-requires
pop-requires c =
    let g = c.args in (
      topped-some g.pending.now g.s (which-of _ _ c.top-op.ensures c.if-op.true),
      c.requires.0.few,
    )

pub returns-then-op : goal.returns-then-op
returns-then-op c =
    let g = c.args in
    let text = g.text.now in
    let p = g.pending.now in
    λ scope n. close-pop text scope n p g.code.now g.s g.t c.requires.2 _ _ c.requires.1
    c.requires.3
    (which-of _ _ c.top-op.ensures c.if-op.true) c.pop.ensures

pub returns-then-s-gt0 : goal.returns-then-s-gt0
returns-then-s-gt0 c =
    let g = c.args in
    let text = g.text.now in
    let p = g.pending.now in
    λ scope n. subst (λ r. Steps text scope n p g.code.now g.s p g.code.now r)
    (sym c.close_bracket.ensures)
    (close-bracket-steps text scope n p g.code.now g.s g.t c.requires.2 c.requires.1
    c.requires.3 c.if-s-gt0.true)

pub returns : goal.returns
returns c =
    let g = c.args in
    let text = g.text.now in
    let p = g.pending.now in
    let other = which-not _ _ c.top-op.ensures c.if-op.false in
    λ scope n. subst (λ r. Steps text scope n p g.code.now g.s p g.code.now r) (sym c.gone.ensures)
    (close-over text scope n p g.code.now g.s g.t c.requires.2 c.requires.1 c.requires.3
    c.requires.4 other.0 other.1
    c.if-s-gt0.false)
