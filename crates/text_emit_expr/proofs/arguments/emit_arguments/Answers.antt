-- `emit_arguments`: none, or some.
use native.Mathlib.Omega.{arith}
use Rattle.text_emit_expr.proofs.ArgumentLaws.{no_arguments, some-arguments, token-reach}
use Rattle.text_emit_expr.proofs.arguments.emit_arguments.Goals as goal

pub returns-then-t-eq-CLOSE : goal.returns-then-t-eq-CLOSE
returns-then-t-eq-CLOSE c =
    let g = c.args in
    let reach = token-reach g.text.now g.from g.from _ c.next_token-t.ensures (omega arith)
    c.requires.0 in (
      no_arguments g.text.now g.scope.now g.n g.from g.code.now g.count _
          c.next_token-t.ensures
          c.if-t-eq-CLOSE.true c.requires.2,
      (reach.0, reach.1, c.requires.2),
    )

pub returns : goal.returns
returns c =
    let g = c.args in (
      some-arguments g.text.now g.scope.now g.n g.from g.code.now g.count _
          c.next_token-t.ensures _
          _ c.if-t-eq-CLOSE.false c.emit_parameters.ensures.0,
      c.emit_parameters.ensures.1,
    )
