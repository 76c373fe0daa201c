-- `hand_args` goes through the arguments: those before number j are handed over.
use Rattle.run_transfer.proofs.Laws.{handed-more}
use Rattle.run_transfer.specs.TransferCode.{args_handed}
use native.Mathlib.Omega.{arith}
use mathlib.Core.Path.{◌≡◌, refl, ◌∙◌, subst}
use Prim.Native.Nat.{ℕ, ◌-◌}
use Rattle.run_transfer.proofs.forks.hand_args.Goals as goal

pub loop-j-init : goal.loop-j-init
unfolding args_handed
loop-j-init c = (refl, refl)

pub loop-j-preserved : goal.loop-j-preserved
loop-j-preserved c =
    let args = c.args in
    let loop = c.loop-j in (
      handed-more args.work.now args.n.0 args.child.0 args.args loop.j loop.invariant.0
          c.hand_arg.ensures,
      c.hand_arg.auto.work
          ∙ loop.invariant.1,
    )

pub returns : goal.returns
returns c =
    let args = c.args in
    let loop = c.loop-j in
    let e : loop.j ≡ args.args = omega arith in
    subst (λ (i : ℕ). loop.work ≡ args_handed args.work.now args.n.0 args.child.0 args.args i) e
    loop.invariant.0
