-- `pop`: what is left after the block is the same.
use mathlib.Core.Path.{refl, sym, ap, ◌∙◌}
use Prim.Native.Nat.{◌-◌, ◌+◌, ◌≤◌, ◌<◌}
use native.Mathlib.Omega.{arith}
use Rattle.text_open.specs.OpenCode.{open_of, leaving}
use Rattle.text_open.proofs.OpenLaws.{top-leaves, top-stays, all_left}
use Rattle.text_open.proofs.open.pop.Goals as goal

pub returns-then-n-gt1024 : goal.returns-then-n-gt1024
returns-then-n-gt1024 c =
    let past : 1024 < c.args.n = c.if-n-gt1024.true in
    let most : c.args.n ≤ 1025 = c.requires in
    (omega arith, λ text ds h l. absurd (omega arith))

pub loop-j-init : goal.loop-j-init
loop-j-init c = λ text. refl

pub returns-then-top-level : goal.returns-then-top-level
returns-then-top-level c =
    let g = c.args in
    let room : g.n ≤ 1024 = c.if-n-gt1024.false in
    let some : 0 < c.loop-j.j = c.loop-j-test.true in
    let most : c.loop-j.j ≤ g.n = c.loop-j.auto.j in
    let top = c.at_or-top.ensures in
    let less : c.at_or-top.result < g.level = c.if-top-level.true in (
      omega arith,
      λ text ds h l.
          ap (open_of text g.words.now) {x = c.loop-j.j - 1 + 1} {y = c.loop-j.j} (omega arith)
          ∙ sym (ap (leaving g.level) (sym (h room)) ∙ c.loop-j.invariant text
          ∙ top-stays text g.words.now c.loop-j.j (c.loop-j.j - 1) (omega arith) g.level
          (omega arith)),
    )

pub loop-j-preserved : goal.loop-j-preserved
loop-j-preserved c =
    let g = c.args in
    let some : 0 < c.loop-j.j = c.loop-j-test.true in
    let top = c.at_or-top.ensures in
    let high : g.level ≤ c.at_or-top.result = c.if-top-level.false in
    λ text. c.loop-j.invariant text
    ∙ top-leaves text g.words.now c.loop-j.j _ (omega arith) g.level (omega arith)

pub returns : goal.returns
returns c =
    let g = c.args in
    let room : g.n ≤ 1024 = c.if-n-gt1024.false in
    let none : c.loop-j.j ≤ 0 = c.loop-j-test.false in (
      omega arith,
      λ text ds h l.
          ap (open_of text g.words.now) {x = 0} {y = c.loop-j.j} (omega arith)
          ∙ sym (ap (leaving g.level) (sym (h room)) ∙ c.loop-j.invariant text
          ∙ all_left text g.words.now c.loop-j.j (omega arith) g.level),
    )
