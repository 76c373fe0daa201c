-- `first_pair` searches the pairs: every pair below `m` keeps its rule, and `start` is where the next one must start.
use mathlib.Core.Path.{◌∙◌}
use borrow.Author.Tests.{not-true, not-false}
use Rattle.lists.proofs.First.{first-begins, first-goes-on, place-halts, place-ends}
use Rattle.check_shape.proofs.Starts.{start-begins, start-next, pair-tested}
use native.Mathlib.Omega.{arith}
use Rattle.check_shape.proofs.pairs.first_pair.Goals as goal

pub loop-m-init : goal.loop-m-init
loop-m-init c = (first-begins _, start-begins _)

pub returns-then-not-pair_kept : goal.returns-then-not-pair_kept
returns-then-not-pair_kept c =
    let args = c.args in
    let loop = c.loop-m in
    let kept = pair-tested args.p.now loop.m loop.invariant.1 c.pair_kept.ensures in
    place-halts _ _ _ loop.invariant.0 (omega arith) (kept ∙ not-true _ c.if-not-pair_kept.true-raw)

pub loop-m-preserved : goal.loop-m-preserved
loop-m-preserved c =
    let args = c.args in
    let loop = c.loop-m in
    let pair-kept = c.pair_kept in
    let kept = pair-tested args.p.now loop.m loop.invariant.1 pair-kept.ensures in (
      first-goes-on _ _ loop.invariant.0 (kept ∙ not-false _ c.if-not-pair_kept.false-raw),
      c.end_of-start.ensures ∙ start-next _ _,
    )

pub returns : goal.returns
returns c =
    let loop = c.loop-m in
    place-ends _ _ _ loop.invariant.0 (omega arith) (omega arith)
