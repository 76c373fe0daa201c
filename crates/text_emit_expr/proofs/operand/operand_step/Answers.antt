-- `operand_step` by the kind of the token.
use native.Mathlib.Omega.{arith}
use Prim.Native.Nat.{◌≤◌, ◌<◌}
use mathlib.Core.Path.{sym, subst}
use lib.ListN.{length}
use Rattle.text_types.specs.SaysCode.{Passed}
use Rattle.text_emit_expr.specs.EndsCode.{frames_of, Steps}
use Rattle.text_emit_expr.proofs.StackLaws.{unclosed-few}
use Rattle.text_emit_expr.proofs.OperandLaws.{pass_of, open-steps}
use Rattle.text_emit_expr.proofs.operand.operand_step.Goals as goal

pub open_bracket-requires : goal.open_bracket-requires
open_bracket-requires c =
    let g = c.args in
    let st = c.requires.0 in
    let few : g.s.unclosed ≤ length (frames_of g.pending.now g.s) =
    unclosed-few g.pending.now g.s.entries g.s.unclosed in
    let deep : length (frames_of g.pending.now g.s) ≤ g.s.at = st.shallow in
    let pass : Passed g.text.now g.s.at g.t.end =
    pass_of g.text.now g.scope.now g.n g.pending.now g.code.now g.s g.t c.requires.1
    c.requires.2 19
    c.if-t-eq-OPEN.true (λ e. omega arith) in
    let on : g.s.at < g.t.end = pass.onward in omega arith

pub returns-then-t-eq-OPEN : goal.returns-then-t-eq-OPEN
returns-then-t-eq-OPEN c =
    let g = c.args in
    subst (λ r. Steps g.text.now g.scope.now g.n g.pending.now g.code.now g.s g.pending.now
    g.code.now r) (sym c.open_bracket.ensures)
    (open-steps g.text.now g.scope.now g.n g.pending.now g.code.now g.s g.t c.requires.1
    c.requires.2
    c.if-t-eq-OPEN.true)

pub returns-then-t-eq-RECV : goal.returns-then-t-eq-RECV
returns-then-t-eq-RECV c =
    let g = c.args in
    c.recv_step.ensures g.scope.now g.n g.code.now

pub returns : goal.returns
returns c =
    let g = c.args in
    c.value_step.ensures g.pending.now
