-- `put_ended` puts the lines and the last line.
use native.Mathlib.Omega.{arith}
use lib.ListN.{take}
use Rattle.trace.specs.Trace.{lines_of}
use Rattle.print_format.specs.Format.{lines_text}
use Rattle.print_lines.specs.TextsCode.{end_text}
use Rattle.run_ability.specs.EndNumbers.{end_number}
use Rattle.lists.proofs.Put.{put_then, put_same}
use Rattle.print_lines.proofs.TraceText.{first-length}
use Rattle.print_text.proofs.Output.{from_start, ran-text}
use Rattle.print_text.proofs.answer.put_ended.Goals as goal

pub put_end-requires : goal.put_end-requires
put_end-requires c = omega (arith, first-length (lines_of c.args.trace.now) c.args.o.lines c.requires.0)

pub returns : goal.returns
returns c =
    let args = c.args in
    let out = args.out.now in
    let ls = take args.o.lines (lines_of args.trace.now) in
    from_start out _
    (put_same out 0 (ran-text ls (end_number args.o.end) args.o.entries args.o.lines args.o.used)
    (put_then out 0 (lines_text ls) (end_text (end_number args.o.end) args.o.entries args.o.lines args.o.used)
    c.put_lines-at.ensures (rw (c.from.ensures, c.number.ensures, c.from-2.ensures, c.from-3.ensures) at c.put_end.ensures)))
