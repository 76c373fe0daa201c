-- `pop_all` goes on n times: as many values are off as it has gone on.
use Rattle.run_giving.proofs.Laws.{dropped-more}
use Rattle.run_giving.specs.GivingCode.{popped_by}
use native.Mathlib.Omega.{arith}
use mathlib.Core.Path.{◌≡◌, refl, ◌∙◌, subst}
use Prim.Native.Nat.{ℕ}
use borrow.Author.Rules.{rules}
use Rattle.run_giving.proofs.pop_all.Goals as goal

pub loop-init : goal.loop-init
unfolding popped_by
loop-init c = (search rules, refl, refl)

pub loop-preserved : goal.loop-preserved
loop-preserved c =
    let args = c.args in
    let loop = c.loop in (
      search rules,
      dropped-more args.w.now loop.counter loop.invariant.1 c.pop_once.ensures,
      c.pop_once.auto.w
          ∙ loop.invariant.2,
    )

pub returns : goal.returns
returns c =
    let args = c.args in
    let loop = c.loop in
    let e : loop.counter ≡ args.n = omega arith in
    subst (λ (i : ℕ). loop.w ≡ popped_by args.w.now i) e loop.invariant.1
