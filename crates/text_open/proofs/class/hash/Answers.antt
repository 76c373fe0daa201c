-- `hash`: the bytes that are left make the rest of it.
use mathlib.Core.Path.{refl, sym, ◌∙◌}
use Prim.Native.Nat.{◌≤◌}
use native.Mathlib.Omega.{arith}
use Rattle.text_open.proofs.Classes.{hash-step, hash-end}
use Rattle.text_open.proofs.class.hash.Goals as goal

pub loop-i-init : goal.loop-i-init
loop-i-init c = (omega arith, refl)

pub mixed-h-requires : goal.mixed-h-requires
mixed-h-requires c = (c.loop-i.invariant.0, c.wide.ensures.1)

pub loop-i-preserved : goal.loop-i-preserved
loop-i-preserved c =
    let g = c.args in
    let l = c.loop-i in (
      c.mixed-h.ensures.1,
      l.invariant.1 ∙ hash-step g.text.now l.h l.i g.end _ _ c.loop-i-test.true c.requires.1
          c.wide.ensures.0 c.mixed-h.ensures.0,
    )

pub returns : goal.returns
returns c =
    let g = c.args in
    let l = c.loop-i in
    let most : g.end ≤ l.i = c.loop-i-test.false in
    let least : l.i ≤ g.end = l.auto.i-end c.requires.0 in
    sym (l.invariant.1 ∙ hash-end g.text.now l.h l.i g.end (omega arith))
