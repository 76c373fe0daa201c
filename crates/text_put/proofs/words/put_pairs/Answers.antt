-- `put_pairs` goes through the methods in the table's order.
use Prim.Native.Nat.{ℕ}
use native.Mathlib.Omega.{arith}
use mathlib.Core.Path.{◌≡◌, refl, ap, ◌∙◌}
use lib.ListN.{length, get_or}
use Rattle.lists.proofs.Put.{put_from-length}
use Rattle.table.specs.Table.{word}
use Rattle.text_put.specs.TableCode.{index_in, offset_to, pairs_to}
use Rattle.text_put.proofs.WordLaws.{words-none, words_same, words-length, pairs-count, pairs-step, offset_step}
use Rattle.text_put.proofs.words.put_pairs.Goals as goal

pub loop-k-init : goal.loop-k-init
unfolding pairs_to offset_to
loop-k-init c = (omega arith, refl, words-none c.args.table.now c.args.at)

pub put_pair-i-requires : goal.put_pair-i-requires
put_pair-i-requires c =
    let args = c.args in
    let loop = c.loop-k in
    omega (
      arith,
      c.requires.0,
      c.requires.2,
      loop.auto.k-end,
      loop.invariant.2.1,
      words-length (pairs_to args.lengths.now args.main loop.k),
      pairs-count args.lengths.now args.main loop.k,
    )

pub overflow_add-offset : goal.overflow_add-offset
overflow_add-offset c = omega (arith, c.requires.0, c.loop-k-test.true, c.loop-k.invariant.0, c.word_at-long.ensures.1)

pub loop-k-preserved : goal.loop-k-preserved
unfolding word
loop-k-preserved c =
    let args = c.args in
    let loop = c.loop-k in
    let lengths = args.lengths.now in
    let long : c.word_at-long.result ≡ get_or lengths (index_in args.main loop.k) 0 =
    c.word_at-long.ensures.0 ∙ ap (λ (j : ℕ). get_or lengths j 0)
    c.index_in-j.ensures in (
      omega (arith, loop.invariant.0, c.word_at-long.ensures.1),
      offset_step lengths args.main loop.k loop.offset c.word_at-long.result loop.invariant.1 long,
      pairs-step args.table.now args.at lengths args.main loop.k loop.offset c.word_at-long.result
          loop.invariant.1 long loop.invariant.2 c.put_pair-i.ensures,
    )

pub shape_of-table : goal.shape_of-table
shape_of-table c = ap length c.loop-k.invariant.2.0 ∙ simp put_from-length

pub returns : goal.returns
returns c =
    let args = c.args in
    let loop = c.loop-k in
    words_same args.table.now args.at (ap (pairs_to args.lengths.now args.main)
    {x = loop.k} {y = args.methods} (omega (arith, loop.auto.k-end, c.loop-k-test.false))) loop.invariant.2
