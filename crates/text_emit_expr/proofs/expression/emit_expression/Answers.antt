-- `emit_expression`: every answer from the state reached is one from the beginning.
use native.Mathlib.Omega.{arith}
use Prim.Native.Nat.{◌≤◌, ◌<◌}
use mathlib.Core.Path.{refl}
use borrow.Author.Rules.{rules}
use Rattle.text_emit_expr.proofs.ExpressionLaws.{begun, begun-stands, reached-here, reached-on, togo-less, expression-fits, expression-refused}
use Rattle.text_emit_expr.proofs.expression.emit_expression.Goals as goal

pub loop-s-init : goal.loop-s-init
loop-s-init c =
    let g = c.args in (
      begun-stands g.text.now g.pending.now g.from g.count c.requires.0 c.requires.1
          c.requires.2,
      reached-here g.text.now g.scope.now g.n g.pending.now g.code.now (begun g.from g.count),
      refl,
      refl,
      omega arith,
    )

pub step-s-requires : goal.step-s-requires
step-s-requires c =
    let l = c.loop-s in
    let h : l.s.phase < 3 = c.loop-s-test.true in
    (l.invariant.0, omega arith)

pub loop-s-smaller : goal.loop-s-smaller
loop-s-smaller c =
    let g = c.args in
    let l = c.loop-s in
    togo-less g.text.now g.scope.now g.n l.pending l.code l.s _ _ _ c.loop-s-test.true l.invariant.0
    c.step-s.ensures

pub loop-s-preserved : goal.loop-s-preserved
loop-s-preserved c =
    let g = c.args in
    let l = c.loop-s in (
      c.step-s.ensures.stands l.invariant.0,
      reached-on g.text.now g.scope.now g.n g.pending.now g.code.now (begun g.from g.count)
          l.pending l.code l.s _ _ _ l.invariant.1 l.invariant.0 c.step-s.ensures,
      search rules,
      search rules,
      (let back : l.s.at ≤ c.step-s.result.at = c.step-s.ensures.back in
          let before : g.from ≤ l.s.at = l.invariant.4 in omega arith),
    )

pub returns-then-s-ne3 : goal.returns-then-s-ne3
returns-then-s-ne3 c =
    let g = c.args in
    let l = c.loop-s in (
      expression-refused g.text.now g.scope.now g.n g.from g.count g.pending.now g.code.now
          l.pending l.code l.s l.invariant.0 l.invariant.1 c.loop-s-test.false c.if-s-ne3.true,
      (l.invariant.4, l.invariant.0.inside, l.invariant.0.room),
    )

pub returns : goal.returns
returns c =
    let g = c.args in
    let l = c.loop-s in (
      expression-fits g.text.now g.scope.now g.n g.from g.count g.pending.now g.code.now
          l.pending l.code l.s l.invariant.0 l.invariant.1 c.if-s-ne3.false,
      (l.invariant.4, l.invariant.0.inside, l.invariant.0.room),
    )
