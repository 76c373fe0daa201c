-- `put_columns` puts three columns.
use mathlib.Core.List.{◌++◌}
use Rattle.print_format.specs.Format.{column}
use Rattle.print_lines.specs.TextsCode.{columns_text}
use Rattle.lists.proofs.Put.{put_then}
use native.Mathlib.Omega.{arith}
use Rattle.print_lines.proofs.Texts.{column-length}
use lib.Dec.{ltb}
use Rattle.print_lines.proofs.writing.put_columns.Goals as goal

pub put_column-j-requires : goal.put_column-j-requires
put_column-j-requires c =
    let args = c.args in
    omega (arith, column-length (ltb 0 args.used) args.l.a)

pub put_column-requires : goal.put_column-requires
put_column-requires c =
    let args = c.args in
    omega (arith, column-length (ltb 0 args.used) args.l.a, column-length (ltb 1 args.used) args.l.b)

pub returns : goal.returns
unfolding columns_text
returns c =
    let args = c.args in
    let out = args.out.now in
    let to1 =
    put_then out args.at (column (ltb 0 args.used) args.l.a) (column (ltb 1 args.used) args.l.b)
    c.put_column-i.ensures c.put_column-j.ensures in
    put_then out args.at (column (ltb 0 args.used) args.l.a ++ column (ltb 1 args.used) args.l.b)
    (column (ltb 2 args.used) args.l.c) to1 c.put_column.ensures
