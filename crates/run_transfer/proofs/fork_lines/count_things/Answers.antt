-- `count_things` goes through the operands: `count` has the things among those before number j.
use Rattle.run_transfer.proofs.Laws.{thing-more, thing-passed}
use Rattle.run_transfer.specs.ForkLinesCode.{things_in}
use native.Mathlib.Omega.{arith}
use mathlib.Core.Path.{◌≡◌, refl, ◌∙◌, subst}
use Prim.Native.Nat.{ℕ, ◌-◌}
use borrow.Author.Rules.{rules}
use Rattle.run_transfer.proofs.fork_lines.count_things.Goals as goal
use Rattle.run_transfer.proofs.fork_lines.count_things.Goals.{then-v-ge3, else-v-ge3}

pub loop-j-init : goal.loop-j-init
unfolding things_in
loop-j-init c = (refl, search rules)

pub loop-j-preserved : goal.loop-j-preserved
loop-j-preserved c =
    let args = c.args in
    let loop = c.loop-j in
    elim c.if-v-ge3.branch [
      | then-v-ge3 w ↦ (
        w.count-is
            ∙ thing-more args.work.now args.n.0 args.args loop.j loop.invariant.0
            c.operand_of-v.ensures w.if-v-ge3.true,
        search rules,
      )
      | else-v-ge3 w ↦ (
        w.count-is
            ∙ thing-passed args.work.now args.n.0 args.args loop.j loop.invariant.0
            c.operand_of-v.ensures w.if-v-ge3.false,
        search rules,
      )
    ]

pub returns : goal.returns
returns c =
    let args = c.args in
    let loop = c.loop-j in
    let e : loop.j ≡ args.args = omega arith in (
      subst (λ (i : ℕ). loop.count ≡ things_in args.work.now args.n.0 args.args i) e loop.invariant.0,
      search
          rules,
    )
