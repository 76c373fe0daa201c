-- `put_refused` puts the word, the number and the place.
use mathlib.Core.List.{[], ◌∷◌, ◌++◌}
use Rattle.print_format.specs.Format.{refused_word, spaced, refused_text}
use Rattle.lists.proofs.Put.{put_then}
use native.Mathlib.Omega.{arith}
use Rattle.print_lines.proofs.Texts.{spaced-length}
use Rattle.print_lines.proofs.writing.put_refused.Goals as goal

pub put_spaced-j-requires : goal.put_spaced-j-requires
unfolding refused_word
put_spaced-j-requires c = omega arith

pub put_spaced-k-requires : goal.put_spaced-k-requires
unfolding refused_word
put_spaced-k-requires c =
    let args = c.args in
    omega (arith, spaced-length args.n)

pub put_byte-requires : goal.put_byte-requires
unfolding refused_word
put_byte-requires c =
    let args = c.args in
    omega (arith, spaced-length args.n, spaced-length args.place)

pub returns : goal.returns
unfolding refused_text refused_word
returns c =
    let args = c.args in
    let out = args.out.now in
    let to1 =
    put_then out args.at refused_word (spaced args.n) c.put_bytes-i.ensures
    c.put_spaced-j.ensures in
    let to2 =
    put_then out args.at (refused_word ++ spaced args.n) (spaced args.place) to1
    c.put_spaced-k.ensures in
    put_then out args.at (refused_word ++ spaced args.n ++ spaced args.place) (10 ∷ []) to2
    c.put_byte.ensures
