-- `clear_frame` goes up: the words before number i are 0.
use Rattle.run_store.proofs.Laws.{cleared_more}
use Rattle.run_store.specs.StoreCode.{cleared_from}
use lib.ListN.{length-set}
use mathlib.Core.Path.{◌≡◌, refl, ◌∙◌, subst}
use native.Mathlib.Omega.{arith}
use Prim.Native.Nat.{ℕ, ◌+◌}
use borrow.Author.Rules.{rules}
use Rattle.run_frames.proofs.frames.clear_frame.Goals as goal

pub loop-i-init : goal.loop-i-init
unfolding cleared_from
loop-i-init c = (search rules, refl, refl)

pub loop-i-preserved : goal.loop-i-preserved
loop-i-preserved c = (
  search rules,
  cleared_more c.args.w.now c.args.from c.loop-i.i
      c.loop-i.invariant.1 refl,
  length-set c.loop-i.w (c.args.from + c.loop-i.i) 0 ∙ c.loop-i.invariant.2,
)

pub returns : goal.returns
returns c =
    let e : c.loop-i.i ≡ 48 = omega arith in
    subst (λ (i : ℕ). c.loop-i.w ≡ cleared_from c.args.w.now c.args.from
    i) e c.loop-i.invariant.1
