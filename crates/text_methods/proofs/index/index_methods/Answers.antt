-- `index_methods`: at each token the methods before it are written down.
use native.Mathlib.Omega.{arith}
use mathlib.Core.Path.{refl}
use borrow.Author.Rules.{rules}
use Rattle.text_methods.proofs.Tests.{one-if, one-most}
use Rattle.text_methods.proofs.Indexing.{index-begins, index-ends, index-turn, index_goes}
use Rattle.text_methods.proofs.index.index_methods.Goals as goal

pub loop-t-init : goal.loop-t-init
loop-t-init c = (
  index-begins c.args.text.now c.args.index.now _ c.next_token-t.ensures c.requires,
  refl,
)

pub enter-requires : goal.enter-requires
enter-requires c = c.loop-t.invariant.0.long

pub overflow_add-i : goal.overflow_add-i
overflow_add-i c = omega (arith, one-most _ c.from-i.ensures, (index-turn c.loop-t.invariant.0 c.loop-t-test.true).index-less, c.well_formed.0.1)

pub braces_after-braces-requires : goal.braces_after-braces-requires
braces_after-braces-requires c = omega (arith, (index-turn c.loop-t.invariant.0 c.loop-t-test.true).braces-less, c.well_formed.0.1)

pub loop-t-smaller : goal.loop-t-smaller
loop-t-smaller c =
    let p = index-turn c.loop-t.invariant.0 c.loop-t-test.true in
    omega (arith, p.begun, p.onward, c.next_token-u.ensures.starts)

pub loop-t-preserved : goal.loop-t-preserved
loop-t-preserved c = (
  index_goes c.loop-t.invariant.0 c.loop-t-test.true _ c.next_token-u.ensures _
      c.names_method-named.ensures _ c.enter.ensures _ _ _ (one-if _ c.loop-t.i c.from-i.ensures)
      c.header_after-header.ensures c.braces_after-braces.ensures,
  search rules,
)

pub bounds-index-0 : goal.bounds-index-0
bounds-index-0 c = omega (arith, c.loop-t.invariant.0.long)

pub returns : goal.returns
returns c = index-ends c.loop-t.invariant.0 c.loop-t-test.false
