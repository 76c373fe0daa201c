-- `put_end` puts the word and four numbers.
use mathlib.Core.List.{[], ◌∷◌, ◌++◌}
use Rattle.print_format.specs.Format.{end_word, spaced}
use Rattle.print_lines.specs.TextsCode.{end_text}
use Rattle.lists.proofs.Put.{put_then}
use native.Mathlib.Omega.{arith}
use Rattle.print_lines.proofs.Texts.{spaced-length}
use Rattle.print_lines.proofs.writing.put_end.Goals as goal

pub put_spaced-i2-requires : goal.put_spaced-i2-requires
put_spaced-i2-requires c =
    let args = c.args in
    omega (arith, spaced-length args.e)

pub put_spaced-i3-requires : goal.put_spaced-i3-requires
put_spaced-i3-requires c =
    let args = c.args in
    omega (arith, spaced-length args.e, spaced-length args.k)

pub put_spaced-i4-requires : goal.put_spaced-i4-requires
put_spaced-i4-requires c =
    let args = c.args in
    omega (arith, spaced-length args.e, spaced-length args.k, spaced-length args.l)

pub put_byte-requires : goal.put_byte-requires
put_byte-requires c =
    let args = c.args in
    omega (arith, spaced-length args.e, spaced-length args.k, spaced-length args.l, spaced-length args.o)

pub returns : goal.returns
unfolding end_text end_word
returns c =
    let args = c.args in
    let out = args.out.now in
    let to1 =
    put_then out args.at end_word (spaced args.e) c.put_bytes-i0.ensures
    c.put_spaced-i1.ensures in
    let to2 =
    put_then out args.at (end_word ++ spaced args.e) (spaced args.k) to1
    c.put_spaced-i2.ensures in
    let to3 =
    put_then out args.at (end_word ++ spaced args.e ++ spaced args.k) (spaced args.l) to2
    c.put_spaced-i3.ensures in
    let to4 =
    put_then out args.at (end_word ++ spaced args.e ++ spaced args.k ++ spaced args.l) (spaced args.o)
    to3 c.put_spaced-i4.ensures in
    put_then out args.at (end_word ++ spaced args.e ++ spaced args.k ++ spaced args.l ++ spaced args.o)
    (10 ∷ []) to4 c.put_byte.ensures
