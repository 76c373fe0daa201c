-- `flush` goes on while the op on top waits for the end of an expression.
use native.Mathlib.Omega.{arith}
use Prim.Native.Nat.{ℕ, ◌≤◌, ◌<◌}
use mathlib.Core.Path.{refl, sym, ap, ◌∙◌}
use Rattle.text_emit_expr.specs.EndsCode.{goes}
use Rattle.text_emit_expr.proofs.FlushLaws.{going-begun, going-some, going_on, going-phase, flush-full, flush-done}
use borrow.Author.Rules.{rules}
use Rattle.text_emit_expr.proofs.stack.flush.Goals as goal

pub top-first-requires : goal.top-first-requires
top-first-requires c = c.requires.1

pub loop-more-init : goal.loop-more-init
loop-more-init c = (
  going-begun c.args.pending.now c.args.code.now c.args.s c.args.puts,
  c.requires.0,
  c.requires.1,
  c.goes-more.ensures ∙ ap (λ (o : ℕ). goes o c.args.puts) c.top-first.ensures,
  refl,
)

pub pop-u-requires : goal.pop-u-requires
pop-u-requires c =
    let l = c.loop-more in
    let g = c.args in (
      going-some g.pending.now g.code.now g.s g.puts l.code l.t l.invariant.0 l.invariant.1
          (sym l.invariant.3 ∙ c.loop-more-test.true),
      l.invariant.2,
    )

pub returns-then-t-eq4 : goal.returns-then-t-eq4
returns-then-t-eq4 c =
    let l = c.loop-more in
    let g = c.args in
    flush-full g.pending.now g.code.now g.s g.puts _ _
    (going_on g.pending.now g.code.now g.s g.puts l.code l.t l.invariant.0 l.invariant.1
    (sym l.invariant.3 ∙ c.loop-more-test.true) _ _ c.pop-u.ensures) c.if-t-eq4.true

pub top-op-requires : goal.top-op-requires
top-op-requires c =
    let l = c.loop-more in
    let g = c.args in
    let few : l.t.entries ≤ 4096 = l.invariant.2 in
    let less = (going-phase g.pending.now g.code.now g.s g.puts l.code l.t l.invariant.0 l.invariant.1
    (sym l.invariant.3 ∙ c.loop-more-test.true) _ _ c.pop-u.ensures c.if-t-eq4.false).1 in
    omega (arith, less)

pub loop-more-smaller : goal.loop-more-smaller
loop-more-smaller c =
    let l = c.loop-more in
    let g = c.args in
    let more = sym l.invariant.3 ∙ c.loop-more-test.true in
    let some : 0 < l.t.entries =
    going-some g.pending.now g.code.now g.s g.puts l.code l.t l.invariant.0 l.invariant.1 more in
    let less = (going-phase g.pending.now g.code.now g.s g.puts l.code l.t l.invariant.0 l.invariant.1
    more _ _ c.pop-u.ensures c.if-t-eq4.false).1 in
    omega (arith, less)

pub loop-more-preserved : goal.loop-more-preserved
loop-more-preserved c =
    let l = c.loop-more in
    let g = c.args in
    let more = sym l.invariant.3 ∙ c.loop-more-test.true in
    let few : l.t.entries ≤ 4096 = l.invariant.2 in
    let phase = going-phase g.pending.now g.code.now g.s g.puts l.code l.t l.invariant.0 l.invariant.1
    more _ _ c.pop-u.ensures c.if-t-eq4.false in (
      going_on g.pending.now g.code.now g.s g.puts l.code l.t l.invariant.0 l.invariant.1 more _ _
          c.pop-u.ensures,
      phase.0,
      omega (arith, phase.1),
      c.goes-more-in-loop-more.ensures ∙ ap (λ (o : ℕ). goes o g.puts) c.top-op.ensures,
      search rules,
    )

pub returns : goal.returns
returns c =
    let l = c.loop-more in
    let g = c.args in
    flush-done g.pending.now g.code.now g.s g.puts l.code l.t l.invariant.0 l.invariant.1
    (sym l.invariant.3 ∙ c.loop-more-test.false)
