-- `move_values` goes down from the top: the values before number j are moved.
use Rattle.run_store.proofs.Laws.{moved_more}
use Rattle.run_store.specs.StoreCode.{moved_down}
use mathlib.Core.Path.{◌≡◌, refl, ◌∙◌, subst}
use native.Mathlib.Omega.{arith}
use Prim.Native.Nat.{ℕ}
use borrow.Author.Rules.{rules}
use Rattle.run_frames.proofs.frames.move_values.Goals as goal

pub loop-j-init : goal.loop-j-init
unfolding moved_down
loop-j-init c = (search rules, refl, refl)

pub move_value-requires : goal.move_value-requires
move_value-requires c = (
  omega (
    arith,
    c.loop-j.invariant.2,
    c.requires,
    c.loop-j-test.true,
  ),
  omega (
    arith,
    c.loop-j.invariant.2,
    c.requires,
    c.loop-j-test.true,
  ),
)

pub loop-j-preserved : goal.loop-j-preserved
loop-j-preserved c = (
  search rules,
  moved_more c.args.w.now
      c.args.top
      c.args.to
      c.args.n
      c.loop-j.j c.loop-j-test.true
      c.loop-j.invariant.1 refl c.move_value.ensures,
  c.move_value.auto.w ∙ c.loop-j.invariant.2,
)

pub returns : goal.returns
returns c =
    let e : c.loop-j.j ≡ c.args.n = omega arith in
    subst (λ (i : ℕ). c.loop-j.w ≡ moved_down c.args.w.now
    c.args.top c.args.to
    c.args.n i) e c.loop-j.invariant.1
