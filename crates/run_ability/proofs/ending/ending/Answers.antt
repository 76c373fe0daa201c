-- `ending` asks one process after the other: none of the first j can move, and end says whether one of them waits.
use Prim.Native.Nat.{ℕ}
use mathlib.Core.Bool.{Bool, cond}
use mathlib.Core.Path.{◌≡◌, refl, sym, ◌∙◌, ap, subst}
use Rattle.std.specs.Prelude.{Some}
use native.Mathlib.Omega.{arith}
use Rattle.run_ability.specs.EndingCode.{ability_number, some_is, ending_op}
use Rattle.run_ability.specs.declared.ends.End.TheVariants.{AllOver, NoneAble}
use Rattle.run_ability.proofs.Scans.{not-one, one_more, goes_on, over}
use Rattle.run_ability.proofs.ending.ending.Goals as goal
use Rattle.run_ability.proofs.ending.ending.Goals.{in-Over, in-Waiting}

pub loop-j-init : goal.loop-j-init
unfolding some_is
loop-j-init c = (refl, refl)

pub returns-in-Able : goal.returns-in-Able
unfolding ability_number
returns-in-Able c =
    let args = c.args in
    goes_on args.p.now args.work.now args.t.now 8 c.loop-j.j c.loop-j-test.true
    c.ability.ensures (ap ability_number c.in-Able.is)

pub loop-j-preserved : goal.loop-j-preserved
unfolding ability_number
loop-j-preserved c =
    let args = c.args in
    let loop = c.loop-j in
    let e = c.ability.ensures in
    elim c.match-ability.branch [
      | in-Over w ↦ (let r = sym (ap ability_number w.in-Over.is) ∙ e in (
        not-one args.p.now args.work.now args.t.now 1 loop.j r (λ i. omega (arith, i)) ∙ loop.invariant.0,
        w.end-is
            ∙ loop.invariant.1
            ∙ sym
            (ap (λ (b : Bool). cond b NoneAble AllOver)
            (not-one args.p.now args.work.now args.t.now 2 loop.j r (λ i. omega (arith, i)))),
      ))
      | in-Waiting w ↦ (let r = sym (ap ability_number w.in-Waiting.is) ∙ e in (
        not-one args.p.now args.work.now args.t.now 1 loop.j r (λ i. omega (arith, i)) ∙ loop.invariant.0,
        w.end-is ∙ sym
            (ap (λ (b : Bool). cond b NoneAble AllOver) (one_more args.p.now args.work.now args.t.now 2 loop.j r refl)),
      ))
    ]

pub returns : goal.returns
returns c =
    let args = c.args in
    let loop = c.loop-j in
    let e : loop.j ≡ 8 = omega arith in
    subst (λ (n : ℕ). Some loop.end ≡ ending_op args.p.now args.work.now args.t.now n) e
    (over args.p.now args.work.now args.t.now loop.j loop.invariant.0 loop.invariant.1)
