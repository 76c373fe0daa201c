-- `any_empty` goes down from the top: none of the values before number j is emptied.
use borrow.Author.Rules.{rules}
use Rattle.run_store.proofs.Laws.{empty-more, empty-found}
use Rattle.run_store.specs.StoreCode.{empty_down}
use mathlib.Core.Bool.{false}
use mathlib.Core.Path.{◌≡◌, refl, sym, subst}
use native.Mathlib.Omega.{arith}
use Prim.Native.Nat.{ℕ, ◌-◌}
use Rattle.run_store.proofs.blocks.any_empty.Goals as goal

pub loop-j-init : goal.loop-j-init
unfolding empty_down
loop-j-init c = (search rules, refl)

pub returns-then-get-eq0 : goal.returns-then-get-eq0
returns-then-get-eq0 c =
    let args = c.args in
    empty-found args.w.now args.top args.n c.loop-j.j c.loop-j-test.true
    c.below.ensures c.get.ensures c.if-get-eq0.true

pub loop-j-preserved : goal.loop-j-preserved
loop-j-preserved c =
    let args = c.args in (
      search rules,
      empty-more args.w.now args.top c.loop-j.j c.loop-j.invariant.1
          c.below.ensures c.get.ensures c.if-get-eq0.false,
    )

pub returns : goal.returns
returns c =
    let args = c.args in
    let e : c.loop-j.j ≡ args.n = omega arith in
    subst (λ (i : ℕ). false ≡ empty_down args.w.now args.top i) e (sym c.loop-j.invariant.1)
