-- `print_text` puts the refusal 9 or the text of the run.
use mathlib.Core.Path.{sym, ◌∙◌}
use Rattle.print_text.proofs.Output.{from_start, prints-same}
use Rattle.print_text.proofs.Built.{printed-run, printed-refusal}
use borrow.Author.Tests.{not-true, not-false}
use Rattle.print_text.proofs.print_text.Goals as goal

pub returns-then-not-well_built : goal.returns-then-not-well_built
returns-then-not-well_built c =
    let args = c.args in
    prints-same args.out.now
    (printed-refusal args.file.now (sym c.well_built.ensures ∙ not-true _ c.if-not-well_built.true-raw))
    (from_start args.out.now _ c.put_refused.ensures)

pub put_parts-requires : goal.put_parts-requires
put_parts-requires c = sym c.well_built.ensures ∙ not-false _ c.if-not-well_built.false-raw

pub returns : goal.returns
returns c =
    let args = c.args in
    prints-same args.out.now
    (printed-run args.file.now (sym c.well_built.ensures ∙ not-false _ c.if-not-well_built.false-raw))
    c.put_parts.ensures
