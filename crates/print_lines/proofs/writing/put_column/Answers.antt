-- `put_column` puts the number of a used column, and "-" otherwise.
use Rattle.print_format.specs.Format.{column}
use Rattle.lists.proofs.Put.{put_same}
use mathlib.Core.Path.{sym, ap}
use mathlib.Core.Bool.{Bool}
use Rattle.print_lines.proofs.writing.put_column.Goals as goal

pub returns-then-used : goal.returns-then-used
unfolding column
returns-then-used c =
    let args = c.args in
    put_same args.out.now args.at (sym (ap (λ (b : Bool). column b args.n) c.if-used.true)) c.put_spaced.ensures

pub returns : goal.returns
unfolding column
returns c =
    let args = c.args in
    put_same args.out.now args.at (sym (ap (λ (b : Bool). column b args.n) c.if-used.false)) c.put_bytes.ensures
