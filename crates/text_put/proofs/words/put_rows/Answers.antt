-- `put_rows` goes through the methods in the table's order.
use Prim.Native.Nat.{ℕ, ◌*◌}
use native.Mathlib.Omega.{arith}
use mathlib.Core.Path.{ap, ◌∙◌}
use lib.ListN.{length}
use Rattle.lists.proofs.Put.{put_from-length}
use Rattle.text_put.specs.TableCode.{rows_to}
use Rattle.text_put.proofs.WordLaws.{words-none, words_same, words-length, index_below, rows-count, rows_step}
use Rattle.text_put.proofs.words.put_rows.Goals as goal

pub loop-k-init : goal.loop-k-init
unfolding rows_to
loop-k-init c =
    words-none c.args.table.now c.args.at

pub overflow_mul-j : goal.overflow_mul-j
overflow_mul-j c =
    let args = c.args in
    omega (
      arith,
      c.index_in-j.ensures,
      index_below args.main c.loop-k.k 32 c.requires.2
          (omega (arith, c.requires.1, c.loop-k-test.true)),
    )

pub put_row-i-requires : goal.put_row-i-requires
put_row-i-requires c =
    let args = c.args in
    let loop = c.loop-k in
    let below = index_below args.main loop.k 32 c.requires.2
    (omega (arith, c.requires.1, c.loop-k-test.true)) in (
      omega (arith, c.index_in-j.ensures, below, c.requires.0),
      omega (arith, c.index_in-j.ensures, below),
      omega (
        arith,
        c.requires.1,
        c.requires.3,
        loop.auto.k-end,
        loop.invariant.1,
        words-length (rows_to args.rows.now args.main loop.k),
        rows-count args.rows.now args.main loop.k
            c.requires.0
            c.requires.2 (omega
            (arith, c.requires.1, loop.auto.k-end)),
      ),
    )

pub loop-k-preserved : goal.loop-k-preserved
loop-k-preserved c =
    let args = c.args in
    rows_step args.table.now args.at args.rows.now args.main c.loop-k.k (18 * c.index_in-j.result)
    (ap (λ (j : ℕ). 18 * j) c.index_in-j.ensures) c.loop-k.invariant c.put_row-i.ensures

pub shape_of-table : goal.shape_of-table
shape_of-table c = ap length c.loop-k.invariant.0 ∙ simp put_from-length

pub returns : goal.returns
returns c =
    let args = c.args in
    let loop = c.loop-k in
    words_same args.table.now args.at (ap (rows_to args.rows.now args.main)
    {x = loop.k} {y = args.methods} (omega (arith, loop.auto.k-end, c.loop-k-test.false))) loop.invariant
