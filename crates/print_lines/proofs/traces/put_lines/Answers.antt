-- `put_lines` goes through the lines: the text of the first i is put.
use mathlib.Core.Path.{refl, ◌∙◌, ap}
use mathlib.Core.List.{◌++◌}
use native.Mathlib.Omega.{arith}
use lib.ListN.{take}
use Rattle.machine.specs.State.{Line}
use Rattle.trace.specs.Trace.{lines_of}
use Rattle.print_format.specs.Format.{line_text, lines_text}
use Rattle.lists.specs.Lists.{put_from}
use Rattle.lists.proofs.Put.{put_then, put_same}
use Rattle.print_lines.proofs.TraceText.{lines_text-next, first-length}
use Rattle.print_lines.proofs.traces.put_lines.Goals as goal

pub loop-i-init : goal.loop-i-init
unfolding lines_text put_from
loop-i-init c = (refl, omega arith)

pub put_line-end-requires : goal.put_line-end-requires
put_line-end-requires c =
    let args = c.args in
    omega (arith, first-length (lines_of args.trace.now) c.loop-i.i (omega arith))

pub loop-i-preserved : goal.loop-i-preserved
loop-i-preserved c =
    let args = c.args in
    let loop = c.loop-i in
    let out = args.out.now in
    let ls = lines_of args.trace.now in
    let text = lines_text (take loop.i ls) in
    put_same out args.at
    (ap (λ (l : Line). text ++ line_text l) c.line_at.ensures ∙ lines_text-next ls loop.i (omega arith))
    (put_then out args.at text _ loop.invariant c.put_line-end.ensures)
