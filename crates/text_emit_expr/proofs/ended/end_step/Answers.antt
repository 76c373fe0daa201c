-- `end_step`: what waits is written, and then by the token.
use Rattle.text_emit_expr.specs.EndsCode.{gone}
use mathlib.Core.Bool.{true}
use Rattle.text_emit_expr.proofs.EndedSteps.{end-stands, end-last, end-then, flushed, token-after, flush-of, steps-same, gone-asked, comma-steps, end-over, comma-of, comma-not}
use Rattle.text_emit_expr.proofs.ended.end_step.Goals as goal

pub flush-e-requires : goal.flush-e-requires
flush-e-requires c = gone-asked c.args.s c.gone.result c.gone.ensures c.requires.0.few

pub returns-then-e-eq4 : goal.returns-then-e-eq4
returns-then-e-eq4 c =
    let g = c.args in
    let text = g.text.now in
    let p = g.pending.now in
    let f = flush-of p g.code.now g.s _ c.gone.ensures c.flush-e.ensures in
    λ scope n. end-last text scope n p g.code.now g.s g.t c.requires.3 _ _ c.requires.1
    c.requires.2 c.requires.4 f c.if-e-eq4.true

pub close_step-requires : goal.close_step-requires
close_step-requires c =
    let g = c.args in
    let text = g.text.now in
    let p = g.pending.now in
    let f = flush-of p g.code.now g.s _ c.gone.ensures c.flush-e.ensures in
    let going = flushed p g.code.now (gone g.s 2 g.s.at) true _ c.flush-e.result f
    c.if-e-eq4.false in (
      end-stands text g.text.now 0 p g.code.now g.s g.t c.requires.3 _ _ c.requires.1
          c.requires.2 c.requires.4 f c.requires.0,
      going.0,
      token-after text g.t _ _ f.at c.requires.3,
      c.if-t-eq-CLOSE.true,
      going.1,
    )

pub returns-then-t-eq-CLOSE : goal.returns-then-t-eq-CLOSE
returns-then-t-eq-CLOSE c =
    let g = c.args in
    let text = g.text.now in
    let p = g.pending.now in
    let f = flush-of p g.code.now g.s _ c.gone.ensures c.flush-e.ensures in
    λ scope n. end-then text scope n p g.code.now g.s g.t c.requires.3 _ _ c.requires.1
    c.requires.2 c.requires.4 f _ _ _ (c.close_step.ensures scope n)

pub top-requires : goal.top-requires
top-requires c =
    let g = c.args in
    let text = g.text.now in
    let p = g.pending.now in
    let f = flush-of p g.code.now g.s _ c.gone.ensures c.flush-e.ensures in
    (end-stands text g.text.now 0 p g.code.now g.s g.t c.requires.3 _ _ c.requires.1
    c.requires.2 c.requires.4 f c.requires.0).few

pub returns-then-t-top : goal.returns-then-t-top
returns-then-t-top c =
    let g = c.args in
    let text = g.text.now in
    let p = g.pending.now in
    let f = flush-of p g.code.now g.s _ c.gone.ensures c.flush-e.ensures in
    let going = flushed p g.code.now (gone g.s 2 g.s.at) true _ c.flush-e.result f
    c.if-e-eq4.false in
    let both = comma-of _ _ _ c.top.ensures c.if-t-top.true in
    λ scope n. end-then text scope n p g.code.now g.s g.t c.requires.3 _ _ c.requires.1
    c.requires.2 c.requires.4 f _ _ _
    (steps-same _ _ c.gone-then-t-top.ensures
    (comma-steps text scope n p _ c.flush-e.result g.t (token-after text g.t _ _ f.at
    c.requires.3) going.0
    both.0 both.1))

pub returns : goal.returns
returns c =
    let g = c.args in
    let text = g.text.now in
    let p = g.pending.now in
    let f = flush-of p g.code.now g.s _ c.gone.ensures c.flush-e.ensures in
    let going = flushed p g.code.now (gone g.s 2 g.s.at) true _ c.flush-e.result f
    c.if-e-eq4.false in
    λ scope n. end-then text scope n p g.code.now g.s g.t c.requires.3 _ _ c.requires.1
    c.requires.2 c.requires.4 f _ _ _
    (steps-same _ _ c.gone-2.ensures
    (end-over text scope n p _ c.flush-e.result g.t (token-after text g.t _ _ f.at
    c.requires.3) going.0
    c.if-t-eq-CLOSE.false going.1 (comma-not _ _ _ c.top.ensures c.if-t-top.false)))
