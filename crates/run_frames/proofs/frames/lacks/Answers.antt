-- `lacks` goes down from the top: none of the values before number j is emptied.
use Rattle.run_store.proofs.Laws.{empty-more, empty-found}
use Rattle.run_store.specs.StoreCode.{empty_down}
use mathlib.Core.Bool.{false}
use mathlib.Core.Path.{◌≡◌, refl, sym, subst}
use native.Mathlib.Omega.{arith}
use Prim.Native.Nat.{ℕ}
use borrow.Author.Rules.{rules}
use Rattle.run_frames.proofs.frames.lacks.Goals as goal

pub loop-j-init : goal.loop-j-init
unfolding empty_down
loop-j-init c = (search rules, refl)

pub returns-then-w-top-eq0 : goal.returns-then-w-top-eq0
returns-then-w-top-eq0 c =
    empty-found c.args.w.now c.args.top
    c.args.n c.loop-j.j
    c.loop-j-test.true refl refl c.if-w-top-eq0.true

pub loop-j-preserved : goal.loop-j-preserved
loop-j-preserved c = (
  search rules,
  empty-more c.args.w.now
      c.args.top c.loop-j.j
      c.loop-j.invariant.1 refl refl c.if-w-top-eq0.false,
)

pub returns : goal.returns
returns c =
    let e : c.loop-j.j ≡ c.args.n = omega arith in
    subst (λ (i : ℕ). false ≡ empty_down c.args.w.now c.args.top i) e (sym
    c.loop-j.invariant.1)
