-- `is_open`: the entries that are left to look at answer the same.
use mathlib.Core.Path.{sym, ◌∙◌}
use Prim.Native.Nat.{◌≤◌, ◌<◌}
use native.Mathlib.Omega.{arith}
use lib.Seq.{slice}
use Rattle.text_open.proofs.OpenLaws.{top-is, top-is-not, looked-through}
use Rattle.text_open.proofs.open.is_open.Goals as goal

pub returns-then-is_this : goal.returns-then-is_this
returns-then-is_this c =
    let g = c.args in
    let some : 0 < c.loop-j.j = c.loop-j-test.true in
    top-is g.text.now g.words.now c.loop-j.j _ (omega arith) g.least
    (slice g.start g.end g.text.now) (sym c.if-is_this.true ∙ c.is_this.ensures)
    ∙ sym c.loop-j.invariant

pub loop-j-preserved : goal.loop-j-preserved
loop-j-preserved c =
    let g = c.args in
    let some : 0 < c.loop-j.j = c.loop-j-test.true in
    c.loop-j.invariant ∙ top-is-not g.text.now g.words.now c.loop-j.j _ (omega arith) g.least
    (slice g.start g.end g.text.now) (sym c.if-is_this.false ∙ c.is_this.ensures)

pub returns : goal.returns
returns c =
    let g = c.args in
    let none : c.loop-j.j ≤ 0 = c.loop-j-test.false in
    sym (c.loop-j.invariant
    ∙ looked-through g.text.now g.words.now c.loop-j.j (omega arith) g.least
    (slice g.start g.end g.text.now))
