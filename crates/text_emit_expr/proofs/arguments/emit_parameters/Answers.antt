-- `emit_parameters`: every answer from after the last argument is one from the first.
use native.Mathlib.Omega.{arith}
use Prim.Native.Nat.{◌≤◌, ◌<◌}
use mathlib.Core.Path.{refl}
use lib.ListN.{length}
use borrow.Author.Tests.{ne_eqb}
use Rattle.std.specs.Prelude.{Ok}
use Rattle.std.proofs.lemmas.Result.{err_from_is_err_and}
use Rattle.text_emit_expr.specs.Emitted.{Said, said}
use Rattle.text_emit_expr.proofs.ArgumentLaws.{later-here, later-then, continued-by, comma-later, comma-onward, parameters-emitted, parameters-refused, token-reach}
use Rattle.text_emit_expr.proofs.arguments.emit_parameters.Goals as goal

pub returns-in_err-r : goal.returns-in_err-r
returns-in_err-r c =
    let g = c.args in
    let e = err_from_is_err_and c.from_residual.result c.from_residual.ensures.1 in
    rw (e.1, e.2) (
      parameters-refused g.text.now g.scope.now g.n g.from g.code.now g.count _ _ refl
          (continued-by g.text.now g.scope.now g.n g.from g.code.now g.count _ _ _ _
          c.in_err-r.ensures.0 (later-here g.text.now g.scope.now g.n _ _)),
      c.in_err-r.ensures.1,
    )

pub loop-t-init : goal.loop-t-init
loop-t-init c =
    let g = c.args in
    let r = c.in_ok-r.ensures in (
      c.next_token-t.ensures,
      later-here g.text.now g.scope.now g.n _ _,
      r.1.1,
      r.1.2,
      refl,
      refl,
      r.1.0,
    )

pub returns-in_err-r-2 : goal.returns-in_err-r-2
returns-in_err-r-2 c =
    let g = c.args in
    let l = c.loop-t in
    let first : Said = said (Ok c.in_ok-r.r) in
    let last : Said = said (Ok l.r) in
    let on = comma-onward g.text.now g.scope.now g.n l.code last l.t l.invariant.0 c.loop-t-test.true in
    let a : l.r.at < l.t.end = on.0 in
    let b : g.from ≤ l.r.at = l.invariant.6 in
    let e = err_from_is_err_and c.from_residual-in_err-r-2.result c.from_residual-in_err-r-2.ensures.1 in
    let stopped = c.in_err-r-2.ensures.1 in
    rw (e.1, e.2) (
      parameters-refused g.text.now g.scope.now g.n g.from g.code.now g.count _ _ refl
          (continued-by g.text.now g.scope.now g.n g.from g.code.now g.count _ first _ _
          c.in_ok-r.ensures.0
          (later-then g.text.now g.scope.now g.n _ first l.code last _ _ l.invariant.1
          (comma-later g.text.now g.scope.now g.n l.code last l.t l.invariant.0 _ _ refl c.loop-t-test.true
          c.in_err-r-2.ensures.0))),
      (omega (arith, stopped.0), stopped.1, stopped.2),
    )

pub loop-t-smaller : goal.loop-t-smaller
loop-t-smaller c =
    let g = c.args in
    let l = c.loop-t in
    let on = comma-onward g.text.now g.scope.now g.n l.code (said (Ok l.r)) l.t l.invariant.0 c.loop-t-test.true in
    let a : l.r.at < l.t.end = on.0 in
    let b : l.t.end ≤ c.in_ok-r-2.r.at = c.in_ok-r-2.ensures.1.0 in
    let d : c.in_ok-r-2.r.at ≤ length g.text.now = c.in_ok-r-2.ensures.1.1
    in omega arith

pub loop-t-preserved : goal.loop-t-preserved
loop-t-preserved c =
    let g = c.args in
    let l = c.loop-t in
    let next = c.in_ok-r-2.ensures in
    let last : Said = said (Ok l.r) in
    let on = comma-onward g.text.now g.scope.now g.n l.code last l.t l.invariant.0 c.loop-t-test.true in
    let a : l.r.at < l.t.end = on.0 in
    let b : l.t.end ≤ c.in_ok-r-2.r.at = next.1.0 in
    let f : g.from ≤ l.r.at = l.invariant.6 in (
      c.next_token-t-in-loop-t.ensures,
      later-then g.text.now g.scope.now g.n _ _ l.code last _ _ l.invariant.1
          (comma-later g.text.now g.scope.now g.n l.code last l.t l.invariant.0 _ _ refl c.loop-t-test.true next.0),
      next.1.1,
      next.1.2,
      omega (arith, l.invariant.4, c.emit_expression-in-loop-t.auto.pending),
      omega (arith, l.invariant.5, c.emit_expression-in-loop-t.auto.code),
      omega arith,
    )

pub returns : goal.returns
returns c =
    let g = c.args in
    let l = c.loop-t in
    let first : Said = said (Ok c.in_ok-r.r) in
    let last : Said = said (Ok l.r) in
    let reach = token-reach g.text.now g.from l.r.at l.t l.invariant.0 l.invariant.6 l.invariant.2 in (
      parameters-emitted g.text.now g.scope.now g.n g.from g.code.now g.count l.code last
          l.t l.invariant.0
          (continued-by g.text.now g.scope.now g.n g.from g.code.now g.count _ first l.code last
          c.in_ok-r.ensures.0 l.invariant.1) (ne_eqb l.t.kind 25 c.loop-t-test.false) l.invariant.2 l.invariant.3,
      (reach.0, reach.1, l.invariant.3),
    )
