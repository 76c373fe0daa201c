-- `find_row`: at each place the search comes to the same.
use native.Mathlib.Omega.{arith}
use Prim.Native.Nat.{◌*◌, ◌≤◌, ◌<◌, ◌^◌}
use lib.ListN.{length}
use Rattle.text_methods.proofs.Tests.{one-if, one-most}
use Rattle.text_methods.proofs.Finding.{search-begins, search-ends, search-passes, search-found, search-goes}
use Rattle.text_methods.proofs.find.find_row.Goals as goal

pub loop-kind-init : goal.loop-kind-init
loop-kind-init c = search-begins c.args.text.now c.args.word.now _ c.next_kind-kind.ensures

pub returns-then-named-same : goal.returns-then-named-same
returns-then-named-same c =
    let text = c.args.text.now in
    let x = c.args.word.now in
    let l = c.loop-kind in
    search-found text x l.at l.header l.braces l.index l.kind l.invariant
    c.loop-kind-test.true _ _ c.next_token-t.ensures c.next_token-u.ensures _ _
    c.names_method-named.ensures c.is_word-same.ensures c.if-named-same.true _ c.count_arguments.ensures

pub overflow_add-index : goal.overflow_add-index
overflow_add-index c =
    let text = c.args.text.now in
    let x = c.args.word.now in
    let l = c.loop-kind in
    let p = search-passes text x l.at l.header l.braces l.index l.kind l.invariant
    c.loop-kind-test.true _ _ c.next_token-t.ensures c.next_token-u.ensures in
    let begun : l.at < length text = p.begun in
    let short : length text * 1 < 2 ^ 63 = c.well_formed.0.1 in
    let low : l.index ≤ l.at = l.invariant.index-low in
    let one = one-most _ c.from-index.ensures in
    omega arith

pub braces_after-braces-requires : goal.braces_after-braces-requires
braces_after-braces-requires c =
    let text = c.args.text.now in
    let x = c.args.word.now in
    let l = c.loop-kind in
    let p = search-passes text x l.at l.header l.braces l.index l.kind l.invariant
    c.loop-kind-test.true _ _ c.next_token-t.ensures c.next_token-u.ensures in
    let begun : l.at < length text = p.begun in
    let short : length text * 1 < 2 ^ 63 = c.well_formed.0.1 in
    let low : l.braces ≤ l.at = l.invariant.braces-low in
    omega arith

pub loop-kind-smaller : goal.loop-kind-smaller
loop-kind-smaller c =
    let text = c.args.text.now in
    let x = c.args.word.now in
    let l = c.loop-kind in
    let p = search-passes text x l.at l.header l.braces l.index l.kind l.invariant
    c.loop-kind-test.true _ _ c.next_token-t.ensures c.next_token-u.ensures in
    let begun : l.at < length text = p.begun in
    let onward : l.at < c.next_token-t.result.end = p.onward in
    omega arith

pub loop-kind-preserved : goal.loop-kind-preserved
loop-kind-preserved c =
    let text = c.args.text.now in
    let x = c.args.word.now in
    let l = c.loop-kind in
    search-goes text x l.at l.header l.braces l.index l.kind l.invariant
    c.loop-kind-test.true _ _ c.next_token-t.ensures c.next_token-u.ensures _ _
    c.names_method-named.ensures c.is_word-same.ensures c.if-named-same.false _ _ _ (one-if _ l.index c.from-index.ensures)
    c.header_after-header.ensures c.braces_after-braces.ensures

pub returns : goal.returns
returns c =
    let l = c.loop-kind in
    search-ends c.args.text.now c.args.word.now l.at l.header l.braces l.index l.kind l.invariant
    c.loop-kind-test.false
