-- `move_down` goes down from the top: the values before number j are moved.
use borrow.Author.Rules.{rules}
use Rattle.run_store.proofs.Laws.{moved_more}
use Rattle.run_store.specs.StoreCode.{moved_down}
use mathlib.Core.Path.{◌≡◌, refl, ◌∙◌, subst}
use native.Mathlib.Omega.{arith}
use Prim.Native.Nat.{ℕ, ◌-◌}
use Rattle.run_store.proofs.blocks.move_down.Goals as goal

pub loop-j-init : goal.loop-j-init
unfolding moved_down
loop-j-init c = (search rules, refl, refl)

pub loop-j-preserved : goal.loop-j-preserved
loop-j-preserved c =
    let args = c.args in (
      search rules,
      moved_more args.w.now args.top args.to args.n c.loop-j.j
          c.loop-j-test.true c.loop-j.invariant.1 c.below.ensures
          c.move_one.ensures,
      c.move_one.auto.w
          ∙ c.loop-j.invariant.2,
    )

pub returns : goal.returns
returns c =
    let args = c.args in
    let e : c.loop-j.j ≡ args.n = omega arith in
    subst (λ (i : ℕ). c.loop-j.w ≡ moved_down args.w.now args.top args.to args.n i) e
    c.loop-j.invariant.1
