-- `give_args` goes through the slots: what stands in those before number j is given away.
use Rattle.run_transfer.proofs.Laws.{given-more}
use Rattle.run_transfer.specs.TransferCode.{args_given}
use native.Mathlib.Omega.{arith}
use mathlib.Core.Path.{◌≡◌, refl, ◌∙◌, subst}
use Prim.Native.Nat.{ℕ, ◌-◌}
use Rattle.run_transfer.proofs.forks.give_args.Goals as goal

pub loop-j-init : goal.loop-j-init
unfolding args_given
loop-j-init c = (refl, refl)

pub loop-j-preserved : goal.loop-j-preserved
loop-j-preserved c =
    let args = c.args in
    let loop = c.loop-j in (
      given-more args.work.now args.n.0 args.child.0 loop.j loop.invariant.0
          c.give_arg.ensures,
      c.give_arg.auto.work
          ∙ loop.invariant.1,
    )

pub returns : goal.returns
returns c =
    let args = c.args in
    let loop = c.loop-j in
    let e : loop.j ≡ args.args = omega arith in
    subst (λ (i : ℕ). loop.work ≡ args_given args.work.now args.n.0 args.child.0 i) e loop.invariant.0
