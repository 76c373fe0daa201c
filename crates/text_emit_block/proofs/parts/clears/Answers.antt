-- `clears`: a slot more is emptied each time.
use mathlib.Core.Path.{refl, ◌∙◌}
use Rattle.text_emit.specs.Reached.{there}
use Rattle.text_emit_block.proofs.ClearLaws.{clears-begin, clears-on, clears-end, clears-off}
use Rattle.text_emit_block.proofs.parts.clears.Goals as goal

pub loop-i-init : goal.loop-i-init
loop-i-init c = (refl, clears-begin c.args.from (there c.args.e) c.args.code.now)

pub returns-in_err-r : goal.returns-in_err-r
returns-in_err-r c =
    let g = c.args in
    let l = c.loop-i in
    rw c.from_residual.ensures (clears-off g.from g.to l.i (there g.e) (there l.r) g.code.now _ _ l.auto.i c.loop-i-test.true
    l.invariant.1 c.in_err-r.ensures)

pub loop-i-preserved : goal.loop-i-preserved
loop-i-preserved c =
    let g = c.args in
    let l = c.loop-i in (
      c.put.auto.code ∙ l.invariant.0,
      clears-on g.from l.i (there g.e) (there l.r) _ g.code.now _ _ l.auto.i l.invariant.1 c.in_ok-r.ensures,
    )

pub returns : goal.returns
returns c =
    let g = c.args in
    let l = c.loop-i in
    clears-end g.from g.to l.i (there g.e) (there l.r) g.code.now _ l.auto.i-end c.loop-i-test.false l.invariant.1
