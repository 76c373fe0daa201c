-- `put_number` puts the digits of the tenth part, and then the last digit.
use mathlib.Core.Path.{sym}
use mathlib.Core.List.{[], ◌∷◌}
use native.Mathlib.Omega.{arith}
use Prim.Native.Nat.{◌+◌, ◌/◌, ◌%◌}
use Rattle.print_format.specs.Format.{decimal}
use Rattle.lists.proofs.Put.{put_same, put_then}
use Rattle.print_lines.proofs.Decimal.{decimal-one, decimal-more, decimal-length}
use Rattle.print_lines.proofs.writing.+put_number.Goals as goal

pub returns-then-n-lt10 : goal.returns-then-n-lt10
returns-then-n-lt10 t c =
    let args = c.args in
    put_same args.out.now args.at (sym (decimal-one args.n (omega arith)))
    c.put_byte.ensures

pub put_byte-requires-2 : goal.put_byte-requires-2
put_byte-requires-2 t c = omega (arith, decimal-length (c.args.n / 10))

pub returns : goal.returns
returns t c =
    let args = c.args in
    let out = args.out.now in
    let last = (48 + args.n % 10) ∷ [] in
    put_same out args.at (sym (decimal-more args.n (omega arith) (omega arith)))
    (put_then out args.at (decimal (args.n / 10)) last
    c.put_number-last.ensures c.put_byte-2.ensures)
