-- `put_spaced` puts a blank and then the digits.
use mathlib.Core.List.{[], ◌∷◌}
use Rattle.print_format.specs.Format.{decimal, spaced}
use Rattle.lists.proofs.Put.{put_then}
use Rattle.print_lines.proofs.writing.put_spaced.Goals as goal

pub returns : goal.returns
unfolding spaced
returns c =
    let args = c.args in
    let out = args.out.now in
    put_then out args.at (32 ∷ []) (decimal args.n) c.put_byte-i.ensures
    c.put_number.ensures
