-- `first_row` searches the rows: every row below `m` keeps its rule.
use mathlib.Core.Path.{sym, ◌∙◌}
use borrow.Author.Tests.{not-true, not-false}
use Rattle.lists.proofs.First.{first-begins, first-goes-on, place-halts, place-ends}
use Rattle.table.specs.Table.{row}
use borrow.Author.Rules.{rules}
use native.Mathlib.Omega.{arith}
use Rattle.check_shape.proofs.rows.first_row.Goals as goal

pub loop-m-init : goal.loop-m-init
loop-m-init c = first-begins _

pub row_kept-requires : goal.row_kept-requires
unfolding row
row_kept-requires c = (cc, search rules)

pub returns-then-not-row_kept : goal.returns-then-not-row_kept
returns-then-not-row_kept c =
    let loop = c.loop-m in
    place-halts _ _ _ loop.invariant (omega arith) (sym c.row_kept.ensures ∙ not-true _ c.if-not-row_kept.true-raw)

pub loop-m-preserved : goal.loop-m-preserved
loop-m-preserved c =
    let loop = c.loop-m in
    first-goes-on _ _ loop.invariant (sym c.row_kept.ensures ∙ not-false _ c.if-not-row_kept.false-raw)

pub returns : goal.returns
returns c =
    let loop = c.loop-m in
    place-ends _ _ _ loop.invariant (omega arith) (omega arith)
