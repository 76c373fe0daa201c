-- `well_built` makes the tests on the six numbers at the file's start.
use Rattle.print_input.proofs.FileLaws.{well_built-by}
use Rattle.print_input.proofs.well_built.Goals as goal

pub returns : goal.returns
returns c =
    let args = c.args in
    well_built-by args.bytes.now c.number_at-o0.ensures.0 c.number_at-l0.ensures.0
    c.number_at-o1.ensures.0 c.number_at-l1.ensures.0
    c.number_at-o2.ensures.0 c.number_at-l2.ensures.0
