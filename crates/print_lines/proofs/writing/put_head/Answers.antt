-- `put_head` puts three numbers.
use mathlib.Core.List.{◌++◌}
use Rattle.print_format.specs.Format.{decimal, spaced}
use Rattle.print_lines.specs.TextsCode.{head_text}
use Rattle.lists.proofs.Put.{put_then}
use native.Mathlib.Omega.{arith}
use Rattle.print_lines.proofs.Decimal.{decimal-length}
use Rattle.print_lines.proofs.Texts.{spaced-length}
use Rattle.print_lines.proofs.writing.put_head.Goals as goal

pub put_spaced-j-requires : goal.put_spaced-j-requires
put_spaced-j-requires c =
    let args = c.args in
    omega (arith, decimal-length args.l.entry)

pub put_spaced-requires : goal.put_spaced-requires
put_spaced-requires c =
    let args = c.args in
    omega (arith, decimal-length args.l.entry, spaced-length args.l.process)

pub returns : goal.returns
unfolding head_text
returns c =
    let args = c.args in
    let out = args.out.now in
    let to1 =
    put_then out args.at (decimal args.l.entry) (spaced args.l.process)
    c.put_number-i.ensures c.put_spaced-j.ensures in
    put_then out args.at (decimal args.l.entry ++ spaced args.l.process) (spaced args.l.kind) to1
    c.put_spaced.ensures
