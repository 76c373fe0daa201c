-- `put_row` copies word by word.
use Prim.Native.Nat.{ℕ, ◌+◌}
use native.Mathlib.Omega.{arith}
use mathlib.Core.Path.{sym, ap, ◌∙◌}
use mathlib.Core.List.{[], ◌∷◌}
use lib.ListN.{length}
use lib.Seq.{slice, slice_empty}
use Rattle.lists.proofs.Put.{put_from-length}
use Rattle.table.specs.Table.{word}
use Rattle.text_put.proofs.WordLaws.{words-none, words_same, words-length, slice-step}
use Rattle.text_put.proofs.words.put_row.Goals as goal

pub loop-k-init : goal.loop-k-init
loop-k-init c =
    let args = c.args in (
      omega arith,
      words_same args.table.now args.at
          (sym (ap (λ (k : ℕ). slice args.from k args.rows.now) {x = args.from + 0} {y = args.from} (omega
          arith)
          ∙ slice_empty args.from args.rows.now))
          (words-none args.table.now args.at),
    )

pub put_word-i-requires : goal.put_word-i-requires
put_word-i-requires c = omega (arith, c.requires.2, c.loop-k-test.true, c.loop-k.invariant.0)

pub loop-k-preserved : goal.loop-k-preserved
unfolding word
loop-k-preserved c =
    let args = c.args in
    let loop = c.loop-k in
    let put = c.put_word-i.ensures in (
      omega (arith, loop.invariant.0, put.1, words-length (c.word_at-v.result ∷ [])),
      slice-step args.table.now args.at args.rows.now args.from loop.k
          c.word_at-v.result
          (omega (arith, c.requires.0, c.loop-k-test.true)) c.word_at-v.ensures.0 loop.invariant.1 put,
    )

pub shape_of-table : goal.shape_of-table
shape_of-table c = ap length c.loop-k.invariant.1.0 ∙ simp put_from-length

pub returns : goal.returns
returns c =
    let args = c.args in
    let loop = c.loop-k in
    words_same args.table.now args.at (ap (λ (k : ℕ). slice args.from (args.from + k) args.rows.now)
    {x = loop.k} {y = 18} (omega (arith, loop.auto.k-end, c.loop-k-test.false))) loop.invariant.1
