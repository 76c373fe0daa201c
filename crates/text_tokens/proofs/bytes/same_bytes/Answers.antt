-- `same_bytes`: the bytes from each index on are the same where the parts are.
use Prim.Native.Nat.{◌-◌}
use native.Mathlib.Omega.{arith}
use mathlib.Core.Path.{refl, sym, ◌∙◌}
use lib.Seq.{slice}
use Rattle.text_tokens.proofs.Parts.{same-unlike, same_end, part-fits, parts-on, parts-differ}
use Rattle.text_tokens.proofs.bytes.same_bytes.Goals as goal

pub returns-then-n-size : goal.returns-then-n-size
returns-then-n-size c =
    let g = c.args in
    let one = c.size-n.ensures in
    let other = c.size.ensures in
    let unlike = c.if-n-size.true in
    sym (same-unlike (slice g.from g.to g.a.now) (slice g.start g.end g.b.now) (λ e. omega arith))

pub loop-k-init : goal.loop-k-init
loop-k-init c = (c.size-n.ensures, (c.if-n-size.false ∙ c.size.ensures, refl))

pub overflow_add-from : goal.overflow_add-from
overflow_add-from c =
    let g = c.args in
    let l = c.loop-k in
    let len = l.invariant.0 in
    omega (arith, part-fits g.a.now g.from g.to l.k (omega arith))

pub bounds-a-from : goal.bounds-a-from
bounds-a-from c =
    let g = c.args in
    let l = c.loop-k in
    let len = l.invariant.0 in
    part-fits g.a.now g.from g.to l.k (omega arith)

pub overflow_add-start : goal.overflow_add-start
overflow_add-start c =
    let g = c.args in
    let l = c.loop-k in
    let len = l.invariant.1.0 in
    omega (arith, part-fits g.b.now g.start g.end l.k (omega arith))

pub bounds-b-start : goal.bounds-b-start
bounds-b-start c =
    let g = c.args in
    let l = c.loop-k in
    let len = l.invariant.1.0 in
    part-fits g.b.now g.start g.end l.k (omega arith)

pub returns-then-a-from : goal.returns-then-a-from
returns-then-a-from c =
    let g = c.args in
    let l = c.loop-k in
    sym (parts-differ g.a.now g.b.now g.from g.to g.start g.end l.k (omega arith) (omega arith)
    c.if-a-from.true)
    ∙ l.invariant.1.1

pub loop-k-preserved : goal.loop-k-preserved
loop-k-preserved c =
    let g = c.args in
    let l = c.loop-k in
    let on =
    parts-on g.a.now g.b.now g.from g.to g.start g.end l.k (omega arith) (omega arith)
    c.if-a-from.false in
    (l.invariant.0, (l.invariant.1.0, sym on ∙ l.invariant.1.1))

pub returns : goal.returns
returns c =
    let g = c.args in
    let l = c.loop-k in
    sym (same_end (slice g.from g.to g.a.now) (slice g.start g.end g.b.now) l.k
    (omega arith) (omega arith))
    ∙ l.invariant.1.1
