-- `count_from`: at each place the count comes to the same.
use native.Mathlib.Omega.{arith}
use Prim.Native.Nat.{◌+◌, ◌*◌, ◌≤◌, ◌<◌, ◌^◌}
use borrow.Author.Tests.{not-true, not-false}
use lib.ListN.{length}
use Rattle.text_methods.proofs.Counted.{count-begins, count-passes, count-goes, count-done}
use Rattle.text_methods.proofs.arguments.count_from.Goals as goal

pub loop-ended-init : goal.loop-ended-init
loop-ended-init c = count-begins c.args.text.now c.args.from _ _ c.next_kind-kind.ensures c.ends_count-ended.ensures

pub count_after-n-requires : goal.count_after-n-requires
count_after-n-requires c =
    let text = c.args.text.now in
    let l = c.loop-ended in
    let p =
    count-passes text c.args.from l.at l.depth l.n l.kind l.ended l.invariant
    (not-true l.ended c.loop-ended-test.true-raw) _ c.next_token-t.ensures in
    let begun : l.at < length text = p.begun in
    let low : l.n ≤ l.at + 1 = l.invariant.count_low in
    let short : length text * 1 < 2 ^ 63 = c.well_formed.0.1 in
    omega arith

pub depth_after-depth-requires : goal.depth_after-depth-requires
depth_after-depth-requires c =
    let text = c.args.text.now in
    let l = c.loop-ended in
    let p =
    count-passes text c.args.from l.at l.depth l.n l.kind l.ended l.invariant
    (not-true l.ended c.loop-ended-test.true-raw) _ c.next_token-t.ensures in
    let begun : l.at < length text = p.begun in
    let low : l.depth ≤ l.at = l.invariant.depth_low in
    let short : length text * 1 < 2 ^ 63 = c.well_formed.0.1 in
    omega arith

pub loop-ended-smaller : goal.loop-ended-smaller
loop-ended-smaller c =
    let text = c.args.text.now in
    let l = c.loop-ended in
    let p =
    count-passes text c.args.from l.at l.depth l.n l.kind l.ended l.invariant
    (not-true l.ended c.loop-ended-test.true-raw) _ c.next_token-t.ensures in
    let onward : l.at < c.next_token-t.result.end = p.onward in
    let begun : l.at < length text = p.begun in
    omega arith

pub loop-ended-preserved : goal.loop-ended-preserved
loop-ended-preserved c =
    let l = c.loop-ended in
    count-goes c.args.text.now c.args.from l.at l.depth l.n l.kind l.ended l.invariant
    (not-true l.ended c.loop-ended-test.true-raw) _ c.next_token-t.ensures _ _ _ _
    c.depth_after-depth.ensures c.count_after-n.ensures c.next_kind-kind-in-loop-ended.ensures c.ends_count-ended-in-loop-ended.ensures

pub returns : goal.returns
returns c =
    let l = c.loop-ended in
    count-done c.args.text.now c.args.from l.at l.depth l.n l.kind l.ended l.invariant
    (not-false l.ended c.loop-ended-test.false-raw)
