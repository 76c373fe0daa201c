-- `write_gifts` goes through the arguments: the lines of those before number j are written.
use Rattle.run_transfer.proofs.Laws.{gift-more}
use Rattle.run_transfer.specs.ForkLinesCode.{gifts, gifts_added}
use native.Mathlib.Omega.{arith}
use mathlib.Core.Path.{◌≡◌, refl, ◌∙◌, subst}
use Prim.Native.Nat.{ℕ, ◌-◌}
use borrow.Author.Rules.{rules}
use Rattle.run_transfer.proofs.fork_lines.write_gifts.Goals as goal

pub loop-j-init : goal.loop-j-init
unfolding gifts_added
loop-j-init c = (refl, search rules, refl)

pub loop-j-preserved : goal.loop-j-preserved
loop-j-preserved c =
    let args = c.args in
    let loop = c.loop-j in (
      gift-more (gifts args.line args.trace.now) args.work.now args.entry args.from.0
          args.to.0 args.args loop.j loop.invariant.0 c.operand_of-v.ensures
          c.write_gift-next.ensures.0,
      search rules,
      c.write_gift-next.auto.trace
          ∙ loop.invariant.2,
    )

pub returns : goal.returns
returns c =
    let args = c.args in
    let loop = c.loop-j in
    let e : loop.j ≡ args.args = omega arith in
    subst
    (λ (i : ℕ). gifts loop.next loop.trace ≡ gifts_added (gifts args.line args.trace.now) args.work.now
    args.entry args.from.0 args.to.0 args.args i) e loop.invariant.0
