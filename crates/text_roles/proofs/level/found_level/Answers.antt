-- `found_level`: at each place the search comes to the same.
use native.Mathlib.Omega.{arith}
use Prim.Native.Nat.{◌-◌, ◌*◌, ◌≤◌, ◌<◌, ◌^◌}
use lib.ListN.{length}
use lib.Seq.{slice}
use Rattle.text_roles.proofs.Looking.{look-begins, look-passes, look-goes, look-done}
use Rattle.text_roles.proofs.level.found_level.Goals as goal

pub loop-more-init : goal.loop-more-init
loop-more-init c =
    let text = c.args.text.now in
    let x = slice c.args.start c.args.end text in
    look-begins text c.args.least x c.args.from c.args.to _ c.next_token-first.ensures _
    c.goes_on-more.ensures

pub braces_after-braces-requires : goal.braces_after-braces-requires
braces_after-braces-requires c =
    let text = c.args.text.now in
    let x = slice c.args.start c.args.end text in
    let l = c.loop-more in
    let p = look-passes text c.args.least x c.args.from c.args.to l.at l.mode l.braces
    l.found l.more l.invariant
    c.loop-more-test.true _ c.next_token-t.ensures in
    let begun : l.at < length text = p.begun in
    let low : l.braces ≤ l.at = l.invariant.braces-low in
    let short : length text * 1 < 2 ^ 63 = c.well_formed.0.1 in
    omega arith

pub loop-more-smaller : goal.loop-more-smaller
loop-more-smaller c =
    let text = c.args.text.now in
    let x = slice c.args.start c.args.end text in
    let l = c.loop-more in
    let p = look-passes text c.args.least x c.args.from c.args.to l.at l.mode l.braces
    l.found l.more l.invariant
    c.loop-more-test.true _ c.next_token-t.ensures in
    let begun : l.at < length text = p.begun in
    let onward : l.at < c.next_token-t.result.end = p.onward in
    omega arith

pub loop-more-preserved : goal.loop-more-preserved
loop-more-preserved c =
    let text = c.args.text.now in
    let x = slice c.args.start c.args.end text in
    let l = c.loop-more in
    look-goes text c.args.least x c.args.from c.args.to l.at l.mode l.braces l.found
    l.more l.invariant
    c.loop-more-test.true _ _ c.next_token-t.ensures c.next_token-u.ensures _ _ _ _ _ _
    c.role-r.ensures c.same_word-is.ensures c.found_after-found.ensures c.mode_after-mode.ensures
    c.braces_after-braces.ensures
    c.goes_on-more-in-loop-more.ensures

pub returns : goal.returns
returns c =
    let text = c.args.text.now in
    let x = slice c.args.start c.args.end text in
    let l = c.loop-more in
    look-done text c.args.least x c.args.from c.args.to l.at l.mode l.braces l.found
    l.more l.invariant
    c.loop-more-test.false
