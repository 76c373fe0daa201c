-- `put_pair` stores one word after the other.
use mathlib.Core.List.{[], ◌∷◌}
use native.Mathlib.Omega.{arith}
use Rattle.text_put.proofs.WordLaws.{words-then, words-length}
use Rattle.text_put.proofs.words.put_pair.Goals as goal

pub put_word-requires : goal.put_word-requires
put_word-requires c = omega (arith, c.requires, c.put_word-i.ensures.1, words-length (c.args.v ∷ []))

pub returns : goal.returns
returns c =
    let args = c.args in
    words-then args.table.now args.at (args.v ∷ []) (args.w ∷ [])
    c.put_word-i.ensures c.put_word.ensures
