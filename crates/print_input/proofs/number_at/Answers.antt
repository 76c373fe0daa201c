-- `number_at` puts two 16-bit numbers together.
use native.Mathlib.Omega.{arith}
use Rattle.print_input.proofs.FileLaws.{number_at-halves}
use Rattle.print_input.proofs.number_at.Goals as goal

pub returns : goal.returns
returns c =
    let args = c.args in
    (omega (arith, number_at-halves args.bytes.now args.i), omega arith)
