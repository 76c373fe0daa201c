-- `put_head`: the pair of numbers, the pairs and the rows one after the other.
use Prim.Native.Nat.{◌≤◌}
use native.Mathlib.Omega.{arith}
use mathlib.Core.List.{[], ◌∷◌}
use Rattle.text_put.proofs.WordLaws.{words-length}
use Rattle.text_table.proofs.TableLaws.{head-put, pairs_below}
use Rattle.text_table.proofs.whole.put_head.Goals as goal

pub put_pairs-j-requires : goal.put_pairs-j-requires
put_pairs-j-requires c =
    let args = c.args in
    let pair = c.put_pair-i in (
      c.requires.1,
      c.requires.2,
      omega (arith, pair.ensures.1, words-length (args.count ∷ args.instructions ∷ [])),
    )

pub put_rows-requires : goal.put_rows-requires
put_rows-requires c =
    let pair = c.put_pair-i in
    let args = c.args in
    let few : pair.result ≤ 2 =
    omega (arith, pair.ensures.1, words-length (args.count ∷ args.instructions ∷ [])) in (
      c.requires.0,
      c.requires.1,
      c.requires.2,
      omega (
        arith,
        pairs_below args.count args.main args.lengths.now _ c.requires.1 few
            c.put_pairs-j.ensures,
      ),
    )

pub returns : goal.returns
returns c =
    let args = c.args in
    head-put args.count args.instructions args.main args.lengths.now args.rows.now args.table.now
    c.put_pair-i.ensures c.put_pairs-j.ensures
    c.put_rows.ensures
